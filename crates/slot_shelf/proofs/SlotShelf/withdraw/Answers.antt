use Rattle.std.proofs.Common.{◌≡◌, length, None, sym, refl, ap, ◌∙◌, length-set, rules}
use Rattle.shelf.specs.Store.{length_of, written}
use Rattle.shelf.proofs.Kept.{lookup_none, remove_none}
use Rattle.slot_shelf.specs.Slots.{slots_held, slots_sound}
use Rattle.slot_shelf.proofs.Shelved.{sound_emptied, kept_some}
use Rattle.slot_shelf.proofs.SlotShelf.withdraw.Goals as goal

pub invariant_of-self : goal.invariant_of-self
invariant_of-self c =
    let ss = c.args.self.now.slots.items in
    let i = c.in_ok-place.place.index in
    record {
      sixteen = ap length c.empty_at.ensures.after ∙ length-set ss i _ ∙ c.args.self.now.sixteen;
      sound = ap slots_sound c.empty_at.ensures.after ∙ sound_emptied ss i _ refl c.args.self.now.sound;
    }

pub returns-in_err-place : goal.returns-in_err-place
returns-in_err-place c =
    let h = slots_held c.args.self.now.slots.items in
    let k = c.args.number in
    let a = sym c.in_err-place.ensures.held in
    let e = lookup_none h k a in
    record {
      answer = let n : c.from_residual.result ≡ None = search rules in n ∙ ap length_of (sym e);
      buffer = ap (λ o. written o c.args.buffer.now) (sym e);
      after = sym (remove_none h k a);
      absent = λ _. refl;
    }

pub returns-clause-absent : goal.returns-clause-absent
returns-clause-absent c e = absurd (kept_some _ c.args.number c.in_ok-place.ensures.found (sym c.empty_at.ensures.answer ∙ e))
