-- Lists of actions.
use Rattle.std.proofs.Common.{◌≡◌, ℕ, suc, ◌+◌, ◌<◌, ◌≤◌, cond, ltb, List, [], ◌∷◌, ◌++◌, length, get_or, take, set, sym, refl, ap, ◌∙◌, arith}
use Rattle.std.proofs.lemmas.Bool.{cond_both, ltb-true, ltb-false}
use Rattle.std.proofs.lemmas.List.{take_more, length-take-le}
use Rattle.sink.specs.Events.{Event}
use Rattle.operator.specs.declared.action.Action.{Action}
use Rattle.operator.specs.declared.action.Reply.{Reply}
use Rattle.operator.specs.Desks.{Desk, desk_after, reply_to, desks_after, replies_to, placed}

module _ {M : Type 0} (step : Event → M → M) where
  -- one list after another is the joined list
  pub desks_join : (xs ys : List Action) (d : Desk M) → desks_after step (xs ++ ys) d ≡ desks_after step ys (desks_after step xs d)
  desks_join [] ys d = refl
  desks_join (x ∷ xs) ys d = desks_join xs ys (desk_after step x d)

  replies_push : (xs : List Action) (a : Action) (d : Desk M) → replies_to step (xs ++ (a ∷ [])) d ≡ replies_to step xs d ++ (reply_to step a (desks_after step xs d) ∷ [])
  replies_push [] a d = refl
  replies_push (x ∷ xs) a d = ap (λ rs. reply_to step x d ∷ rs) (replies_push xs a (desk_after step x d))

  replies_length : (xs : List Action) (d : Desk M) → length (replies_to step xs d) ≡ length xs
  replies_length [] d = refl
  replies_length (x ∷ xs) d = ap suc (replies_length xs (desk_after step x d))

-- one reply more finds its place, or there is none left
placed_set : (rs old : List Reply) (r : Reply) (n : ℕ) → length rs ≡ n → n < length old → set (placed rs old) n r ≡ placed (rs ++ (r ∷ [])) old
placed_set [] [] r n e l = absurd (omega arith)
placed_set [] (o ∷ old) r n e l = ap (λ k. set (o ∷ old) k r) (sym e)
placed_set (x ∷ rs) [] r n e l = absurd (omega arith)
placed_set (x ∷ rs) (o ∷ old) r n e l =
    let t : length rs < length old = omega arith in
    ap (λ k. set (x ∷ placed rs old) k r) (sym e) ∙ ap (λ (ys : List Reply). x ∷ ys) (placed_set rs old r (length rs) refl t)

placed_past : (rs old : List Reply) (r : Reply) → length old ≤ length rs → placed rs old ≡ placed (rs ++ (r ∷ [])) old
placed_past [] [] r l = refl
placed_past [] (o ∷ old) r l = absurd (omega arith)
placed_past (x ∷ rs) [] r l = refl
placed_past (x ∷ rs) (o ∷ old) r l = let t : length old ≤ length rs = omega arith in ap (λ (ys : List Reply). x ∷ ys) (placed_past rs old r t)

placed_length : (rs old : List Reply) → length (placed rs old) ≡ length old
placed_length [] old = refl
placed_length (x ∷ rs) [] = refl
placed_length (x ∷ rs) (o ∷ old) = ap suc (placed_length rs old)

-- one turn of the loop: the action at a place, from what was done of those before it
module _ {M : Type 0} (step : Event → M → M) (xs : List Action) (i : ℕ) (a : Action) (d : Desk M) where
  one_more : i < length xs → a ≡ get_or xs i a → take (i + 1) xs ≡ take i xs ++ (a ∷ [])
  one_more l is = take_more xs i a l ∙ ap (λ x. take i xs ++ (x ∷ [])) (sym is)

  pub desks_more : i < length xs → a ≡ get_or xs i a → desk_after step a (desks_after step (take i xs) d) ≡ desks_after step (take (i + 1) xs) d
  desks_more l is = sym (desks_join step (take i xs) (a ∷ []) d) ∙ ap (λ ys. desks_after step ys d) (sym (one_more l is))

  all_replies : i < length xs → a ≡ get_or xs i a → replies_to step (take i xs) d ++ (reply_to step a (desks_after step (take i xs) d) ∷ []) ≡ replies_to step (take (i + 1) xs) d
  all_replies l is = sym (replies_push step (take i xs) a d) ∙ ap (λ ys. replies_to step ys d) (sym (one_more l is))

  count : i < length xs → length (replies_to step (take i xs) d) ≡ i
  count l = replies_length step (take i xs) d ∙ length-take-le i xs (omega arith)

  pub replies_more : (old : List Reply) → i < length xs → a ≡ get_or xs i a
      → cond (ltb i (length (placed (replies_to step (take i xs) d) old))) (set (placed (replies_to step (take i xs) d) old) i (reply_to step a (desks_after step (take i xs) d))) (placed (replies_to step (take i xs) d) old)
      ≡ placed (replies_to step (take (i + 1) xs) d) old
  replies_more old l is =
      let rs = replies_to step (take i xs) d in
      let r = reply_to step a (desks_after step (take i xs) d) in
      let n = placed_length rs old in
      let c = count l in
      cond_both (ltb i (length (placed rs old))) (set (placed rs old) i r) (placed rs old) (λ ys. ys ≡ placed (replies_to step (take (i + 1) xs) d) old)
      (λ e.
      let room = ltb-true i (length (placed rs old)) e in
      placed_set rs old r i c (omega arith) ∙ ap (λ rs. placed rs old) (all_replies l is))
      (λ e.
      let full = ltb-false i (length (placed rs old)) e in
      placed_past rs old r (omega arith) ∙ ap (λ rs. placed rs old) (all_replies l is))
