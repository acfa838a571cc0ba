-- What is known where a result is handed on.
use Rattle.std.proofs.Common.{◌≡◌, ℕ, ◌<◌, subst, arith}
use mathlib.Core.Logic.{inl, inr}
use Rattle.type_graph.specs.declared.UnifyErr.{UnifyErr}
use Rattle.type_graph.specs.declared.UnifyErr.TheVariants as err
use Rattle.type_graph.specs.Graph.{Tells}
use Rattle.type_infer.specs.declared.refusals.BuildErr.{BuildErr}
use Rattle.type_infer.specs.declared.refusals.BuildErr.TheVariants as build
use Rattle.type_infer.specs.Refusals.{Shows, Stands_for, Stands_at, At_number}

pub shows : {P Q : Type 0} (b : BuildErr) (e : UnifyErr) → Stands_for b e → (P → Q) → Tells P e → Shows Q b
shows (build.Untyped n) (err.Clash i j) s f p = f p
shows (build.Untyped n) (err.BadKind i k) s f p = f p
shows (build.Untyped n) (err.Infinite i) s f p = f p
shows (build.Untyped n) err.Memory s f p = absurd s
shows build.Memory e s f p = tt

pub shows_as : {P Q : Type 0} (b : BuildErr) → (P → Q) → Shows P b → Shows Q b
shows_as (build.Untyped n) f p = f p
shows_as build.Memory f p = tt

pub shown : {P : Type 0} (b : BuildErr) (n : ℕ) → b ≡ build.Untyped n → Shows P b → P
shown {P} b n e p = subst (Shows P) e p

pub at_number : (lo base : ℕ) (b : BuildErr) → lo < base → Stands_at lo base b → At_number base b
at_number lo base (build.Untyped n) lt (inl e) = inr (omega arith)
at_number lo base (build.Untyped n) lt (inr p) = inr p.1
at_number lo base build.Memory lt s = tt

pub at_first : (base : ℕ) (b : BuildErr) → Stands_at 0 base b → At_number base b
at_first base (build.Untyped n) (inl e) = inl e
at_first base (build.Untyped n) (inr p) = inr p.1
at_first base build.Memory s = tt
