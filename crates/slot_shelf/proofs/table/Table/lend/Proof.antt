-- `lend` lends one element, and the table follows it, for every element type. Assumes `Logic`.
use Rattle.std.proofs.Common.{◌≡◌, ℕ, ◌+◌, ◌*◌, ◌^◌, ◌<◌, ◌≤◌, List, [], ◌∷◌, length, get_or, set, sym, refl, ◌∙◌, subst, mul-le-mul_right, arith, length-set, w64}
use seplogic.Ra.Ura.{Ura}
use base.Fraction.{full_share}
use base.Logic.{SProp, ent, sep, ex, via, assoc'}
use base.Fml.{Lft, GName, Share, ftrue, flft, fobs, fbor, feq, fsep}
use mir.Syntax.{Fn, named, a_type, ty_array, tcons, tnil}
use mir.MapTy.{inst_fn}
use mir.Val.{Val, vint, vptr}
use prog.Align.{field_in}
use prog.Memory.{size, align, up}
use prog.Wp.{Calls, Loops, WpFn, Tables}
use types.Logic.{Logic, sem}
use contract.Monad.{fact}
use contract.Running.{tables, tables_of}
use sound.WpLaws.{WpFn-mono}
use types.Kit.{Item, ‵, ◌⊛◌, raw, mean, some, later, ◌$◌, ◌∵◌, !, qed, by, move, keep, use1, use2, drop, split, join, pick, rewrite, show, group, await, updating, fsplit, fsplit3, fjoin, feq_i, feq_l, suffices, frame, done}
use types.Kit as kit
use types.Mut.{open_ref}
use types.Run.{size_lit, stop, fld, bin, addr, returns, enter}
use types.ByLocal.{alloc_all, pass_all, free_all, look_at, get, through, sets}
use types.SemTy.{Body}
use denote.Array.{Array}
use denote.ArrayMemory.{Array-apart, Array-whole}
use denote.Builtin.{usize, RefMutOf}
use denote.Exit.{yes, no}
use denote.Follow.{follows, lends_Part}
use denote.Index.{place, place_is, others, takes, puts, row}
use denote.Memory.{mem, part_at, shares}
use denote.Param.{layout, layouts, param}
use denote.Param.Laws.{Laws, param_laws, row_loose, array_laws}
use denote.Plain.{uint_vals, uint_Tells}
use denote.RattleType.{RattleType, owns}
use denote.Ref.{MutRef, mut_vals, mut_Tells}
use denote.Signature.{plain, mut_ref_to}
use denote.Steps.{nothing}
use denote.Struct.Loose.{Looses}
use denote.Triple.Carry.{spared}
use denote.Triple.Clauses.{Clauses, Ended, closing}
use denote.Triple.Entry.{on_entry}
use denote.Triple.Spec.{Meets, triple_of}
use denote.Triple.Table.{entered, run_framed}
use denote.Triple.Walked.{says, needs, Stays, stay_dropped, walk_of, ends_at, walked, Goes-dropped, Goes-spent_ref, walk_Meets}
use borrow.Struct.Lend.{kept_record, record_apart, record_fill}
use Rattle.std.proofs.SliceLists.{any-default}
use Rattle.std.proofs.ptr.Rows.{hd}
use Rattle.slot_shelf.specs.declared.table.Table.{Table}
use Rattle.slot_shelf.specs.declared.table.TheConstants.{SLOTS}
use Rattle.slot_shelf.specs.contracts.table.Table as table
use Rattle.slot_shelf.specs.contracts.table.Table.lend.Key.{name as #self}
use Rattle.slot_shelf.proofs.table.Table.lend.Statement as stated
use Rattle.slot_shelf.proofs.table.Table.lend.Code as code

module _ (X : RattleType) (L : Laws X) where
  abbrev Y : RattleType
  Y = param 0 X

  abbrev R : RattleType
  R = table.the_row Y

  abbrev s : ℕ
  s = (mem Y).size

  -- where the array lies in the table
  abbrev d : ℕ
  d = up (align (ty_array (layout X) SLOTS)) 0

  abbrev fn' : Fn
  fn' = inst_fn (layouts (a_type ∷ []) (X, tt)) code.function

  abbrev ended : Ended
  ended = record { signature = record { lifetimes = 1; outlives = []; params = RefMutOf (0 ∷ []) tt (plain (λ _. R)) (λ _. tt) ∷ plain (λ _. usize) ∷ []; result = RefMutOf (0 ∷ []) tt (plain (λ _. Y)) (λ _. tt) }; kept = (no, (yes, tt)) }

  abbrev stayed : Stays ended.signature.params ended.kept
  stayed = (stay_dropped (mut_ref_to (0 ∷ []) tt (plain (λ _. R))) no, (stay_dropped (plain (λ _. usize)) yes, tt))

  -- the table with another element at i
  abbrev with_at : Table X.Denot → ℕ → X.Denot → Table X.Denot
  with_at h i w = record { items = set h.items i w }

  abbrev spec : {M : Type 1} {𝓤 : Ura M} (𝓛 : Logic 𝓤) → Clauses 𝓤 ended
  spec {𝓤 = 𝓤} 𝓛 κs a = record {
    ghost = Unit {0};
    requires = λ _. sep 𝓤 (fact 𝓤 (size (layout R) < 2 ^ 63)) (fact 𝓤 (a.1.0 < SLOTS));
    ensures = λ _ r _. sep 𝓤 (sem 𝓛 (follows R Y a.0.ghost_name r.ghost_name (with_at a.0.now a.1.0))) (fact 𝓤 (r.now ≡ get_or a.0.now.items a.1.0 r.now));
  }

  abbrev loose : Looses (table.the_type Y).parts
  loose = (row_loose (Array Y SLOTS) (array_laws Y (param_laws 0 X L) SLOTS), tt)

module _ (X : RattleType) (L : Laws X) {M : Type 1} {𝓤 : Ura M} (𝓛 : Logic 𝓤) (κ : Lft) (q : Share) (rb ro : ℕ) (γ : GName) (h : Table X.Denot) (i : ℕ) where
  open 𝓛 use {H, A}

  abbrev xs : List X.Denot
  xs = h.items

  abbrev o : ℕ
  o = ro + d X L

  abbrev at_i : ℕ
  at_i = i * s X L + o

  -- the table without its array
  abbrev rest : Item 𝓤
  rest = kept_record (table.the_type (Y X L)) (loose X L) 0 (d X L) (table.struct (Y X L)).as_values (table.struct (Y X L)).Ghost (table.struct (Y X L)).make (λ v. tt) (λ x. refl) (λ v g. refl) (λ x. x) M 𝓤 𝓛 h rb ro

  -- the table without element i
  abbrev Rest : SProp 𝓤
  Rest = sep 𝓤 (sem 𝓛 (others (shares (Y X L)) full_share xs i rb o)) (mean 𝓛 rest)

  back : length xs ≡ SLOTS → i < SLOTS → (w : X.Denot) → ent 𝓤 (sep 𝓤 (sem 𝓛 ((mem (Y X L)).own_at w rb at_i)) Rest) (sem 𝓛 ((mem (R X L)).own_at (with_at X L h i w) rb ro))
  back l li w =
      qed 𝓛 (‵ (part_at (Y X L) full_share w rb at_i) ∷ (‵ (others (shares (Y X L)) full_share xs i rb o) ⊛ rest) ∷ []) ∵ move ! (1 ∷ []) $ split ! $ move ! (2 ∷ 0 ∷ []) $
      rewrite ! 0 (λ (k : ℕ). ‵ (part_at (Y X L) full_share w rb k)) (sym (place_is (s X L) o i)) refl $
      use2 𝓛 (‵ (row (Y X L) full_share (set xs i w) rb o)) (puts (shares (Y X L)) full_share 𝓛 xs i w rb o (subst (λ (k : ℕ). i < k) (sym l) li)) $
      feq_i ! ℕ (length (set xs i w)) SLOTS (length-set xs i w ∙ l) $ fjoin ! $
      use1 𝓛 (‵ (part_at (Array (Y X L) SLOTS) full_share (set xs i w) rb o)) (Array-whole 𝓛 (Y X L) full_share SLOTS (set xs i w) rb o) $
      by ! (record_fill (table.the_type (Y X L)) (loose X L) 0 (d X L) (table.struct (Y X L)).as_values (table.struct (Y X L)).Ghost (table.struct (Y X L)).make (λ v. tt) (λ x. refl) (λ v g. refl) (λ x. x) refl (λ f. refl) M 𝓤 𝓛 h (set xs i w) rb ro)

  -- the element, lent
  abbrev Lent : X.Denot → GName → SProp 𝓤
  Lent y γ' = sep 𝓤 (sem 𝓛 ((MutRef (named 0) κ (Y X L)).own_val (record { ref_ptr = (rb, at_i); ghost_name = γ'; now = y }) (vptr rb at_i ∷ []))) (sep 𝓤 (A.lft κ q) (sem 𝓛 (follows (R X L) (Y X L) γ γ' (with_at X L h i))))

  abbrev Got : ((y : X.Denot) × (y ≡ get_or xs i y)) × GName → SProp 𝓤
  Got p = Lent p.0.0 p.1

  lends : i < SLOTS → ent 𝓤 (sep 𝓤 (A.obs γ ((R X L).coded.code h)) (sep 𝓤 (A.bor κ (Body (mem (R X L)) rb ro γ)) (A.lft κ q))) (H.⇛ (ex 𝓤 Got))
  lends li =
      qed 𝓛 (‵ (fobs γ ((R X L).coded.code h)) ∷ ‵ (fbor κ (Body (mem (R X L)) rb ro γ)) ∷ ‵ (flft κ q) ∷ []) ∵ updating ! $
      open_ref ! tt (mem (R X L)) {b = rb} {o = ro} $
      use1 𝓛 (‵ (part_at (Array (Y X L) SLOTS) full_share xs rb o) ⊛ rest)
      (record_apart (table.the_type (Y X L)) (loose X L) 0 (d X L) (table.struct (Y X L)).as_values (table.struct (Y X L)).Ghost (table.struct (Y X L)).make (λ v. tt) (λ x. refl) (λ v g. refl) (λ x. x) 𝓛 refl refl h rb ro) $ split ! $
      use1 𝓛 (‵ (fsep (feq ℕ (length xs) SLOTS) (row (Y X L) full_share xs rb o))) (Array-apart 𝓛 (Y X L) full_share tt SLOTS xs rb o) $ fsplit ! $ feq_l ! (λ l.
      let lt : i < length xs = subst (λ (k : ℕ). i < k) (sym l) li in
      let e : X.Denot = hd xs (omega arith) in
      let y : X.Denot = get_or xs i e in
      use1 𝓛 (‵ (part_at (Y X L) full_share y rb (place (s X L) o i)) ⊛ ‵ (others (shares (Y X L)) full_share xs i rb o)) (takes (shares (Y X L)) full_share 𝓛 xs i e rb o lt) $ split ! $
      rewrite ! 0 (λ (k : ℕ). ‵ (part_at (Y X L) full_share y rb k)) (place_is (s X L) o i) refl $
      -- [y; the others; the rest; the open borrow; obs; auth]
      move ! (1 ∷ 2 ∷ []) $ join ! $ move ! (2 ∷ 3 ∷ 4 ∷ 1 ∷ 0 ∷ []) $ group ! 5 $
      use1 𝓛 (later (some (λ (γ' : GName). raw (Lent y γ'))))
      (lends_Part 𝓛 (R X L) (Y X L) (with_at X L h i) (named 0) κ q rb ro rb at_i γ Rest (back l li) ((R X L).coded.code h) ((R X L).coded.code h) y) $ await ! tt $ pick ! (λ γ'.
      kit.now ! $ show ! Got ((y, any-default xs i e y lt), γ') $ done !))

  module _ (fi : i < 2 ^ 64) where
    abbrev bound : (walk_of 𝓛 (ended X L) (stayed X L) (spec X L 𝓛)).Ghost
    bound = (((κ, tt), (q, tt), tt, (record { ref_ptr = (rb, ro); ghost_name = γ; now = h }, (i, tt)), (vptr rb ro ∷ [], (vint w64 i ∷ [], tt))), tt)

    abbrev Post : Val → SProp 𝓤
    Post = (walk_of 𝓛 (ended X L) (stayed X L) (spec X L 𝓛)).post bound

    exits : (y : X.Denot) → y ≡ get_or xs i y → (γ' : GName) → ent 𝓤 (Lent y γ') (Post (vptr rb at_i))
    exits y e γ' =
        qed 𝓛 (‵ ((MutRef (named 0) κ (Y X L)).own_val (record { ref_ptr = (rb, at_i); ghost_name = γ'; now = y }) (vptr rb at_i ∷ [])) ∷ ‵ (flft κ q) ∷ ‵ (follows (R X L) (Y X L) γ γ' (with_at X L h i)) ∷ []) ∵
        suffices ! _ (ends_at 𝓛 (ended X L) (stayed X L) (spec X L 𝓛) bound (vptr rb at_i) (record { ref_ptr = (rb, at_i); ghost_name = γ'; now = y }) (tt, (tt, tt)) (tt, (tt, tt))) $
        nothing ! $ nothing ! $ fjoin ! $ nothing ! $ fjoin ! $ join ! $ nothing ! $ move ! (2 ∷ 0 ∷ []) $ join ! $ join ! $ frame ! $ says ! e $ done !

    module _ (C : Calls 𝓤 H) (Λ : Loops 𝓤 H) where
      walk : size (layout (R X L)) < 2 ^ 63 → i < SLOTS → ent 𝓤 (on_entry 𝓛 (ended X L).signature (κ, tt) (q, tt) (record { ref_ptr = (rb, ro); ghost_name = γ; now = h }, (i, tt)) (vptr rb ro ∷ [], (vint w64 i ∷ [], tt))) (WpFn 𝓤 H C Λ (fn' X L) (vptr rb ro ∷ vint w64 i ∷ []) Post)
      walk fit li =
          let whole : d X L + SLOTS * s X L ≤ size (layout (R X L)) = field_in (table.struct (Y X L)).name (tcons (ty_array (layout X) SLOTS) tnil) 0 (ty_array (layout X) SLOTS) (d X L) refl in
          let low : i * s X L ≤ SLOTS * s X L = mul-le-mul_right (s X L) (omega arith) in
          let tiny : s X L < 2 ^ 64 = omega arith in
          let fm : i * s X L < 2 ^ 64 = omega arith in
          qed 𝓛 ((‵ (flft κ q) ⊛ ‵ ftrue) ∷ ‵ (owns (MutRef (named 0) κ (R X L) ∷ usize ∷ []) (record { ref_ptr = (rb, ro); ghost_name = γ; now = h }, (i, tt)) (vptr rb ro ∷ [], (vint w64 i ∷ [], tt))) ∷ []) ∵
          enter ! C Λ (fn' X L) (vptr rb ro ∷ vint w64 i ∷ []) _ $
          alloc_all ! (λ l. pass_all ! refl ((tt, tt), ((tt, record { fits = fi }), tt)) $
          move ! (1 ∷ []) $ fsplit ! $ fsplit3 ! $ drop ! $ move ! (3 ∷ []) $ split ! $ move ! (2 ∷ 3 ∷ 0 ∷ []) $
          sets ! (bin ! (get ! refl) (size_lit ! (record { fits = tiny })) (record { fits = fm })) refl (tt, record { fits = fm }) $
          sets ! (addr ! (through ! refl (fld ! refl (stop !)))) refl (tt, tt) $
          sets ! (bin ! (get ! refl) (get ! refl) tt) refl (tt, tt) $
          sets ! (addr ! (through ! refl (stop !))) refl (tt, tt) $
          group ! 3 $ use1 𝓛 (later (some (λ (p : ((y : X.Denot) × (y ≡ get_or xs i y)) × GName). raw (Got p)))) (lends li) $ await ! tt $ pick ! (λ p.
          returns ! (look_at ! 0 refl) $ free_all ! refl $
          keep ! (0 ∷ []) $ by ! (exits p.0.0 p.0.1 p.1)))

needs_both : {M : Type 1} (𝓤 : Ura M) (φ ψ : Type 0) (P : SProp 𝓤) {Q : SProp 𝓤} → (φ → ψ → ent 𝓤 P Q) → ent 𝓤 (sep 𝓤 P (sep 𝓤 (fact 𝓤 φ) (fact 𝓤 ψ))) Q
needs_both 𝓤 φ ψ P k = via 𝓤 (sep 𝓤 (sep 𝓤 P (fact 𝓤 φ)) (fact 𝓤 ψ)) (assoc' 𝓤 P (fact 𝓤 φ) (fact 𝓤 ψ)) (needs 𝓤 ψ (sep 𝓤 P (fact 𝓤 φ)) (λ y. needs 𝓤 φ P (λ x. k x y)))

meets : (X : RattleType) (L : Laws X) {M : Type 1} {𝓤 : Ura M} (𝓛 : Logic 𝓤) (𝓣 : Tables 𝓤 𝓛.H)
    → Meets 𝓛 (ended X L).signature (WpFn 𝓤 𝓛.H 𝓣.C 𝓣.Λ (fn' X L)) (closing 𝓛 (ended X L) (spec X L 𝓛))
meets X L {𝓤 = 𝓤} 𝓛 𝓣 =
    walk_Meets 𝓛 (ended X L) (stayed X L) (Goes-spent_ref 𝓛 1 (0 ∷ []) tt (plain (λ _. R X L)), (Goes-dropped 𝓛 1 (plain (λ _. usize)) yes (λ κs x f. refl), tt)) (spec X L 𝓛) (WpFn 𝓤 𝓛.H 𝓣.C 𝓣.Λ (fn' X L)) (WpFn-mono 𝓤 𝓛.H 𝓛.laws 𝓣 (fn' X L))
    (walked 𝓛 (ended X L) (stayed X L) (spec X L 𝓛) (WpFn 𝓤 𝓛.H 𝓣.C 𝓣.Λ (fn' X L)) (λ κs. (mut_vals, (uint_vals w64, tt))) (λ κs. (mut_Tells (named 0) κs.0 (R X L), (uint_Tells w64, tt)))
    (λ κs qs bounds a g are. needs_both 𝓤 (size (layout (R X L)) < 2 ^ 63) (a.1.0 < SLOTS) _ (walk X L 𝓛 κs.0 qs.0 a.0.ref_ptr.0 a.0.ref_ptr.1 a.0.ghost_name a.0.now a.1.0 are.1.0.1 𝓣.C 𝓣.Λ)))

pub lend_spec : {M : Type 1} → stated.statement M
unfolding tables_of
lend_spec 𝓤 𝓛 𝓜 𝓡 wired X L y =
    let A = 𝓛.A in
    let 𝓣 : Tables 𝓤 𝓛.H = tables_of 𝓤 𝓛.H 𝓜 (tables 𝓤 𝓛.H 𝓜 𝓡 𝓡.env) in
    spared 𝓛 (ended X L).signature (𝓡.run (𝓡.env (#self (layouts (a_type ∷ []) (X, tt))))) (run_framed 𝓤 𝓛.H 𝓜 𝓡 (𝓡.env (#self (layouts (a_type ∷ []) (X, tt))))) 1 (X.lives, tt) (closing 𝓛 (ended X L) (spec X L 𝓛))
    (entered 𝓤 𝓛.H (triple_of 𝓛 (ended X L).signature (closing 𝓛 (ended X L) (spec X L 𝓛))) 𝓣.C 𝓣.Λ (#self (layouts (a_type ∷ []) (X, tt))) (fn' X L) (code.unfolded 𝓤 𝓛.H 𝓜 𝓡 wired (X, tt)) (meets X L 𝓛 𝓣))
    ((y.0.0, y.0.1, tt, y.0.3, y.0.4), y.1)
