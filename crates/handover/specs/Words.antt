-- Small words for refusals.
use Rattle.std.specs.Result as results
use Rattle.std.specs.Prelude.{Some, None, Ok, Err, Option, Result}

-- what is made of a value that may be absent
abbrev pub either : {A S : Type 0} → Option A → S → (A → S) → S
either None x f = x
either (Some a) x f = f a

-- what becomes of a state: something, where a call is taken, and else nothing
abbrev pub on_ok : {A E S : Type 0} → Result A E → (A → S) → S → S
on_ok (Ok a) f s = f a
on_ok (Err e) f s = s

-- the answer of a call, from what was found where it is taken
abbrev pub answer : {A B E : Type 0} → Result A E → (A → B) → Result B E
answer r f = results.result_map_both f (λ e. e) r

-- taken where nothing stands against it
abbrev pub unless : {A E : Type 0} → Option E → A → Result A E
unless x a = either x (Ok a) (λ e. Err e)
