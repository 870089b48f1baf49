-- What a loop over numbers writes.
use Rattle.std.proofs.Common.{◌≡◌, ℕ, ◌+◌, ◌-◌, ◌≤◌, List, [], ap, sym, ◌∙◌}
use Rattle.std.proofs.Output.{writes_in_calls_nil, has_written_append, has_written_of_eq}
use Rattle.std.specs.declared.fmt.Formatter.{Formatter}
use Rattle.std.specs.Fmt.{HasWritten, IsPlainFormatter}
use Rattle.reports.specs.Each.{each_below, each_to}
use Rattle.reports.proofs.EachMore.{each_none, each_more, each_next}

module _ {W : Type 0} (took : W → List ℕ → W → Type 0) where
  -- nothing yet
  pub nothing : (f : Formatter W) (e : ℕ → List ℕ) → IsPlainFormatter f → HasWritten took f (each_below 0 e) f
  nothing f e plain = has_written_of_eq took f [] _ f (sym (each_none e)) (record { wrote = writes_in_calls_nil _ _; plain = plain })

  -- the numbers below n, and n
  pub one_more : (f g h : Formatter W) (e : ℕ → List ℕ) (n m : ℕ) → n + 1 ≡ m → HasWritten took f (each_below n e) g → HasWritten took g (e n) h → HasWritten took f (each_below m e) h
  one_more f g h e n m s a b =
      has_written_of_eq took f _ _ h (sym (each_more e n) ∙ ap (λ (j : ℕ). each_below j e) s) (has_written_append took f _ g _ h a b)

  -- the numbers from 1 to one less than n, and n
  pub one_next : (f g h : Formatter W) (e : ℕ → List ℕ) (n m : ℕ) → 1 ≤ n → m ≡ n → HasWritten took f (each_to (n - 1) e) g → HasWritten took g (e n) h → HasWritten took f (each_to m e) h
  one_next f g h e n m l s a b = has_written_of_eq took f _ _ h (each_next e n m l s) (has_written_append took f _ g _ h a b)
