-- How a `Handle` stores its value, so that a type may reach itself through one: as the value that it shows.
use mathlib.Core.Path.{refl}
use mathlib.Core.Former.{Former, this, const, pair, via}
use base.Stored.{gnil}
use base.Fml.{ftrue}
use denote.RattleType.{RattleType}
use denote.Memory.{part_of}
use denote.RawPtr.{Ptr}
use denote.Sharing.{nothing}
use denote.HoleLaws.{Alike}
use denote.HolePlaces.{Recodes, struct_places, laid, one_value}
use denote.Hole.Fix.{over}
use denote.Param.Weighed.{Weighed}
use denote.Model.Placed.{view_places}
use Rattle.std.specs.declared.rc.Rc.{Rc}
use Rattle.std.specs.contracts.rc.Rc as rc
use Rattle.std.specs.declared.alloc.Global.{Global}
use Rattle.std.specs.contracts.alloc.Global as heap
use Rattle.std.specs.contracts.impls.GlobalAllocator.TheImpl.{ghosts}
use Rattle.array_data.specs.declared.handle.Handle.TheInside.{Inside}
use Rattle.array_data.specs.declared.handle.Handle.TheView.{view, invariant}
use Rattle.array_data.specs.contracts.handle.Handle as C
use Rattle.array_data.specs.contracts.handle.Handle.TheInside as I

abbrev pub the_former : Former {0} → Former {0}
the_former inner = inner

abbrev pub the_weighed : {inner : Former {0}} → Weighed inner → Weighed (the_former inner)
the_weighed measure = measure

-- the one field, an `Rc`: a pointer and the value
abbrev field : Former {0}
field = via (pair (const Ptr) this) Inside (λ X f. (f.inner.ptr, f.inner.value))
    (λ X v. record { inner = record { ptr = v.0; value = v.1 } }) (λ X f. refl) (λ X v. refl)

abbrev holding : {X Y : Type 0} → Rc X Global → Y → Rc Y Global
holding b y = record { ptr = b.ptr; value = y }

abbrev rc_row : RattleType → RattleType
rc_row R = rc.the_row R heap.the_row ghosts

module _ (R S : RattleType) (h : R.Denot → S.Denot) where
  rc_places : Alike R S h → Alike (rc_row R) (rc_row S) (λ b. holding b (h b.value))
  unfolding part_of
  rc_places alike = record {
    mir_same = λ i. (rc_row (one_value R (alike.mir_same i) (λ _. ftrue) (λ _ _. nothing) gnil)).mir;
    own_same = λ b i. (rc_row (one_value R (alike.mir_same i) (alike.own_same b.value i) (alike.shr_same b.value i) gnil)).own_val (holding b tt);
    shr_same = λ b i. (rc_row (one_value R (alike.mir_same i) (alike.own_same b.value i) (alike.shr_same b.value i) gnil)).shr_at (holding b tt);
  }

  pub the_places : Alike R S h → Alike (C.the_row R) (C.the_row S) ((the_former this).map R.Denot S.Denot h)
  the_places alike = view_places field this view (λ X Y k f. refl) (λ X f. refl) R.Denot S.Denot h (C.the_row R).coded (C.the_row S).coded
      (invariant R.Denot) (invariant S.Denot) (λ f p q. refl) (λ f p q. refl) (λ f p. tt) (λ f p. tt)
      (over (I.the_row R)) (over (I.the_row S))
      (struct_places (I.the_type R) (I.the_type S) ((λ b. holding b (h b.value)), tt) _ (λ d. refl) refl (laid _ _ _ (rc_places alike), tt))

  pub the_codes_placed : Recodes R S h → Recodes (C.the_row R) (C.the_row S) ((the_former this).map R.Denot S.Denot h)
  the_codes_placed same d = same d
