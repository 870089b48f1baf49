-- A level told to a side with so many rows.
use Rattle.std.proofs.Common.{◌≡◌, ℕ, ◌<◌, ◌≤◌, false, List, length, take, sym, refl, ap, ◌∙◌, arith}
use Rattle.std.proofs.lemmas.Bool.{le-leb, lt-leb}
use Rattle.std.proofs.lemmas.List.{length-take}
use Rattle.wire.specs.declared.point.Side.{Side}
use Rattle.ladder.specs.Tables.{Holds}
use Rattle.book_model.specs.declared.level.Level.{Level}
use Rattle.book_model.specs.Levels.{price_of, before, changed}
use Rattle.book_model.specs.Entering.{Known, emptied, levels, with_levels, put, limited}
use Rattle.book_model.proofs.Sides.{levels_with}

put_levels : (s : Side) (l : Level) (k : Known) → levels s (put s l k) ≡ changed price_of (before s) l (levels s k)
put_levels s l k = levels_with s (changed price_of (before s) l (levels s k)) k

module _ (d : ℕ) (s : Side) (l : Level) (k : Known) where
  fits : length (changed price_of (before s) l (levels s k)) ≤ d → limited d s l k ≡ put s l k
  fits h = rw (put_levels s l k, le-leb _ d h) refl

  full : d < length (changed price_of (before s) l (levels s k)) → limited d s l k ≡ emptied false k.touched
  full h = rw (put_levels s l k, lt-leb _ d h) refl

  -- the book `now` after the level is told, where the first n of the side's rows us are used then
  pub entered : (now : Known) (us : List Level) (n e : ℕ) → e ≡ d → length us ≡ e
      → Holds us n (changed price_of (before s) l (levels s k)) → now ≡ with_levels s (take n us) k → now ≡ limited d s l k
  entered now us n e w g f q = q ∙ ap (λ xs. with_levels s xs k) f.is ∙ sym (fits (omega (arith, f.within, ap length f.is, length-take n us, w, g)))

  -- and where no row was free
  pub lost : (now : Known) (e : ℕ) → e ≡ d → e < length (changed price_of (before s) l (levels s k)) → now ≡ emptied false k.touched → now ≡ limited d s l k
  lost now e w f q = q ∙ sym (full (omega (arith, w, f)))
