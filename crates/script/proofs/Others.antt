-- A line whose first word is another than `read`.
use Rattle.std.proofs.Common.{◌≡◌, ◌≢◌, ℕ, Bool, true, false, cond, List, [], ◌∷◌, Ok, Some, None, codes, Option, refl}
use Rattle.script.specs.declared.verb.Verb.{Verb}
use Rattle.script.specs.declared.verb.Verb.TheVariants as verb
use Rattle.script.specs.Faults.{readable}
use Rattle.script.specs.Numbers.{number_in}
use Rattle.script.specs.Fields.{only_number, packet_in, source_in, setup_in}
use Rattle.script.specs.Commands as ask
use Rattle.script.specs.Answers.{answer_to}

-- what a program that only reads packets makes of a command
abbrev Refused : ask.Asked → Type 0
Refused a = Some (codes "unreadable\n") ≡ answer_to a

refused_asks : {T : Type 0} (f : T → ask.Asked) → ((x : T) → Refused (f x)) → (o : Option T) → Refused (ask.asks f o)
refused_asks f h None = refl
refused_asks f h (Some x) = h x

refused_bare : (a : ask.Asked) → Refused a → (ws : List (List ℕ)) → Refused (ask.bare a ws)
refused_bare a h [] = h
refused_bare a h (w ∷ ws) = refl

refused_make : (n f : Option ℕ) (s : Option (List ℕ)) → Refused (ask.make_of n f s)
refused_make None f s = refl
refused_make (Some n) None s = refl
refused_make (Some n) (Some f) None = refl
refused_make (Some n) (Some f) (Some s) = refl

refused_make_in : (ws : List (List ℕ)) → Refused (ask.make_in ws)
refused_make_in [] = refl
refused_make_in (n ∷ []) = refl
refused_make_in (n ∷ (s ∷ ws)) = refused_make (number_in 8 n) (only_number 32 ws) (source_in s)

refused_verb : (v : Verb) (ws : List (List ℕ)) → v ≢ verb.Read → Refused (ask.by_verb v ws)
refused_verb verb.Read ws n = absurd (n refl)
refused_verb verb.Setup ws n = refused_asks ask.setup (λ x. refl) (setup_in ws)
refused_verb verb.Make ws n = refused_make_in ws
refused_verb verb.Offer ws n = refused_asks ask.offer (λ x. refl) (packet_in ws)
refused_verb verb.Claim ws n = refused_asks ask.claim (λ x. refl) (only_number 32 ws)
refused_verb verb.Settle ws n = refused_bare ask.settle refl ws
refused_verb verb.Restart ws n = refused_asks ask.restart (λ x. refl) (only_number 32 ws)
refused_verb verb.Book ws n = refused_asks ask.book (λ x. refl) (only_number 16 ws)
refused_verb verb.Row ws n = refused_asks ask.row (λ x. refl) (only_number 16 ws)
refused_verb verb.State ws n = refused_bare ask.state refl ws

refused_readable : (o : Option Verb) (v : Verb) (ws : List (List ℕ)) → Ok v ≡ readable o → v ≢ verb.Read → Refused (ask.asks (λ x. ask.by_verb x ws) o)
refused_readable None v ws e n = refl
refused_readable (Some x) v ws e n = refused_verb x ws (λ f. n (cc))

-- another verb than `read` is answered as unreadable, whatever stands behind it
pub other_verb : (comment : Bool) (w : List ℕ) (ws vs : List (List ℕ)) (v : Verb) → w ∷ ws ≡ cond comment [] vs → Ok v ≡ readable (ask.verb_of w) → v ≢ verb.Read → Some (codes "unreadable\n") ≡ answer_to (cond comment ask.pass (ask.asked vs))
other_verb true w ws vs v e r n = cc
other_verb false w ws vs v e r n = rw (← e) (refused_readable (ask.verb_of w) v ws r n)
