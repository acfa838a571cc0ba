-- An application's steps, as they are in code.
use Rattle.std.proofs.Common.{◌≡◌, ℕ, suc, ◌+◌, ◌<◌, ◌≤◌, List, [], ◌∷◌, ◌++◌, length, get_or, drop, take, Bool, true, false, Option, Some, None, Result, Ok, Err, refl, sym, ap, ◌∙◌, subst, arith, add-one, append_assoc}
use Rattle.std.specs.Borrow.{Bor}
use Rattle.std.specs.Prelude.{IfOk}
use Rattle.fut_scalar.specs.declared.memory.NoMemory.{NoMemory}
use Rattle.fut_types.specs.Types.{Sub}
use Rattle.fut_typing.specs.Names.{Names}
use Rattle.sized_types.specs.Sizes.{Size, Fun}
use Rattle.fut_sizes.specs.Applications.{Argument, Early, Late, Later, Wanting, applied_frame, is_arrow, uses, with_use}
use Rattle.fut_sizes.specs.Levels.{levels_within}
use Rattle.fut_sizes.specs.Matching as matching
use Rattle.fut_sizes.specs.Matching.{Opened, counted, in_opened, inside, made_at, none_opened, read}
use Rattle.size_arena.specs.declared.dims.Free as frees
use Rattle.size_arena.specs.declared.opened.Frame.TheVariants as frame
use Rattle.size_arena.specs.declared.opened.Frames.{Frames}
use Rattle.size_arena.specs.declared.opened.Frames.TheVariants as form
use Rattle.size_arena.specs.declared.trees.SizeTree.{SizeTree}
use Rattle.size_arena.specs.declared.trees.SizeTree.TheVariants as size
use Rattle.size_arena.specs.Frames.{applied_at, opened_of}
use Rattle.size_arena.specs.Trees.{size_of}
use Rattle.size_arena.proofs.FrameLaws.{opened_closed, opened_inside}
use Rattle.size_slots.specs.declared.slots.Found.{Found}
use Rattle.size_slots.specs.Held.{Holds}
use Rattle.size_slots.proofs.TakeLaws.{counted_held}
use Rattle.size_applying.specs.declared.arguments.Argument as arguments
use Rattle.size_applying.specs.declared.arguments.Later as laters
use Rattle.size_applying.specs.declared.arguments.Wanting as wantings
use Rattle.size_applying.specs.declared.going.Application.{Application}
use Rattle.size_applying.specs.Wanted.{none_each, early_value, Is_argument, is_early, is_late, Wants, All_want, later_of, laters_of}
use Rattle.size_applying.specs.Going.{Goes, Takes_arrow, arrow_taken, gives_last, no_arrow_left, no_memory_left}
use Rattle.size_applying.specs.Sharing.{Chained, any_last}
use Rattle.size_applying.proofs.SharingForms.{chained_end, chained_with}
use Rattle.size_applying.proofs.ArgumentForms.{fun_at}
use Rattle.size_applying.proofs.EachLaws.{each_more, each_at, each_end, At_place}

-- ---- before the first argument

pub closed_frames : (f : Frames) → f ≡ form.Closed → opened_of f ≡ none_opened
closed_frames f is = ap opened_of is ∙ opened_closed

pub ruleset closes = (closed_frames)

pub begun : (N : Names) (types : Sub) (w : List wantings.Wanting) (f : Bor Frames) (t : Bor SizeTree) (l : List laters.Later) (m : ℕ) → w ≡ [] → opened_of f.now ≡ none_opened → l ≡ [] → m ≡ 0 + levels_within (size_of t.now)
    → Goes N types (record { wantings = w; gives = record { frames = f; size = t; goes_on = true; follows = false; levels = m }; later = l }) [] none_opened true (size_of t.now) []
begun N types w f t l m a b c d = record {
  wants = subst (λ z. All_want N types z []) (sym a) none_each;
  opened = b;
  last = refl;
  gives = refl;
  later = ap laters_of c;
  levels = omega (arith, d);
  chained = subst (λ z. Chained z (gives_last (record { wantings = w; gives = record { frames = f; size = t; goes_on = true; follows = false; levels = m }; later = l }))) (sym c) tt;
}

-- ---- along an arrow

pub inside_is : (t : Frames) (n next k : ℕ) (v w : Option frees.Free) (rest : Bor Frames) → t ≡ form.Inside (frame.Applied n next k v) rest → v ≡ w → opened_of t ≡ inside (applied_at n next k w) (opened_of rest.now)
inside_is t n next k v w rest is e = ap opened_of is ∙ opened_inside (frame.Applied n next k v) rest ∙ ap (λ z. inside (applied_at n next k z) (opened_of rest.now)) e

pub ruleset insides = (inside_is)

pub counting : (f made g : Found) (n k l a b : ℕ) → ((σ : matching.Found) → Holds f σ → Holds made (made_at n σ)) → g.slots ≡ made.slots → g.chosen ≡ made.chosen → g.makers ≡ made.makers → a ≡ f.next + k → b ≡ a + 1 → g.next ≡ b + l → (σ : matching.Found) → Holds f σ → Holds g (counted (suc k + l) (made_at n σ))
counting f made g n k l a b makes s c m p q r σ holds =
    let before : σ.next ≡ f.next = holds.next in
    let after : σ.next ≡ made.next = (makes σ holds).next in
    counted_held made g (made_at n σ) (suc k + l) s c (omega (arith, p, q, r, before, after)) m (makes σ holds)

frame_by : (N : Names) (types : Sub) (n next k : ℕ) {x : arguments.Argument} {a : Argument} → Is_argument N types x a → applied_at n next k (early_value x) ≡ applied_frame n next k a
frame_by N types n next k (is_early {value = None}) = refl
frame_by N types n next k (is_early {value = Some d}) = refl
frame_by N types n next k (is_late waits) = refl

laters_end : (ls : List laters.Later) (l : laters.Later) → laters_of (ls ++ l ∷ []) ≡ laters_of ls ++ later_of l ∷ []
laters_end [] l = refl
laters_end (x ∷ ls) l = ap (λ z. later_of x ∷ z) (laters_end ls l)

function_levels : (k : ℕ) (p r : Size) → levels_within (Fun k p r) ≡ levels_within p + levels_within r
unfolding levels_within
function_levels k p r = refl

module _ (n : ℕ) (x : arguments.Argument) (height k : ℕ) (from to : Bor SizeTree) (old new : Application) (before after : Found) (is : old.gives.size.now ≡ size.Fun height k from to)
    (frames : opened_of new.gives.frames.now ≡ inside (applied_at n before.next k (early_value x)) (opened_of old.gives.frames.now))
    (wants : new.wantings ≡ old.wantings ++ record { node = n; argument = x; frames = new.gives.frames; wanted = from } ∷ [])
    (later : new.later ≡ old.later ++ record { node = suc n; frames = old.gives.frames; size = old.gives.size; follows = old.gives.follows } ∷ [])
    (gives : new.gives.size ≡ to) (goes_on : new.gives.goes_on ≡ is_arrow (size_of to.now))
    (levels : (rest : ℕ) → old.gives.levels ≡ levels_within (size_of from.now) + rest → new.gives.levels ≡ rest)
    (counted_so : (σ : matching.Found) → Holds before σ → Holds after (counted (suc k + new.gives.levels) (made_at n σ))) where
  abbrev noted_later : laters.Later
  noted_later = record { node = suc n; frames = old.gives.frames; size = old.gives.size; follows = old.gives.follows }

  arrow_is : size_of old.gives.size.now ≡ Fun k (size_of from.now) (size_of to.now)
  arrow_is = fun_at old.gives.size.now height k from to is

  gives_same : size_of new.gives.size.now ≡ size_of to.now
  gives_same = ap (λ (z : Bor SizeTree). size_of z.now) gives

  leads : gives_last new noted_later
  leads follows = record {
    chosen = k;
    from = size_of from.now;
    frame = applied_at n before.next k (early_value x);
    is = arrow_is ∙ ap (Fun k (size_of from.now)) (sym gives_same);
    opened = frames;
  }

  chained_same : Chained old.later (gives_last old) → Chained new.later (gives_last new)
  chained_same c = subst (λ z. Chained z (gives_last new)) (sym later) (chained_end (gives_last old) (gives_last new) noted_later old.later c (λ l h. h) leads)

  module _ (N : Names) (types : Sub) (a : Argument) (ws : List Wanting) (φ : Opened) (so : Bool) (t : Size) (ls : List Later) (σ : matching.Found) (named : Is_argument N types x a) (goes : Goes N types old ws φ so t ls) (holds : Holds before σ) where
    frame_same : opened_of new.gives.frames.now ≡ inside (applied_frame n σ.next k a) φ
    frame_same = frames ∙ ap (λ z. inside z (opened_of old.gives.frames.now)) (frame_by N types n before.next k named ∙ ap (λ z. applied_frame n z k a) (sym holds.next)) ∙ ap (inside (applied_frame n σ.next k a)) goes.opened

    later_same : laters_of new.later ≡ ls ++ record { node = suc n; size = in_opened φ t } ∷ []
    later_same = ap laters_of later ∙ laters_end old.later noted_later ∙ ap (λ z. z ++ later_of noted_later ∷ []) goes.later
        ∙ ap (λ (z : Opened). ls ++ record { node = suc n; size = in_opened z (size_of old.gives.size.now) } ∷ []) goes.opened ∙ ap (λ z. ls ++ record { node = suc n; size = in_opened φ z } ∷ []) goes.gives

    levels_same : new.gives.levels ≡ levels_within (size_of to.now)
    levels_same = levels (levels_within (size_of to.now)) (goes.levels ∙ ap levels_within (sym goes.gives ∙ arrow_is) ∙ function_levels k (size_of from.now) (size_of to.now))

    pub arrow_done : Takes_arrow N types n a ws φ so t ls σ new after (Ok true)
    arrow_done = arrow_taken {k = k} {p = size_of from.now} {r = size_of to.now} (sym goes.gives ∙ arrow_is)
        (record {
          wants = subst (λ z. All_want N types z (ws ++ record { node = n; argument = a; opened = inside (applied_frame n σ.next k a) φ; wanted = size_of from.now } ∷ [])) (sym wants)
              (each_more (Wants N types) goes.wants (record { node = n; argument = x; frames = new.gives.frames; wanted = from }) (record { node = n; argument = a; opened = inside (applied_frame n σ.next k a) φ; wanted = size_of from.now }) (record { node = refl; argument = named; opened = frame_same; wanted = refl }));
          opened = frame_same;
          last = goes_on;
          gives = gives_same;
          later = later_same;
          levels = levels_same;
          chained = chained_same goes.chained;
        }) (subst (λ z. Holds after (counted (suc k + z) (made_at n σ))) levels_same (counted_so σ holds))

pub no_arrow : (N : Names) (types : Sub) (n : ℕ) (a : Argument) (ws : List Wanting) (φ : Opened) (so : Bool) (t : Size) (ls : List Later) (σ : matching.Found) (old : Application) (table : Found) → false ≡ is_arrow (size_of old.gives.size.now) → Goes N types old ws φ so t ls → Holds table σ
    → Takes_arrow N types n a ws φ so t ls σ old table (Ok false)
no_arrow N types n a ws φ so t ls σ old table h goes holds = no_arrow_left (sym (h ∙ ap is_arrow goes.gives)) goes holds

-- ---- uses of names that are arguments

append_none : {A : Type 0} (xs : List A) → xs ≡ xs ++ []
append_none [] = refl
append_none (x ∷ xs) = ap (λ z. x ∷ z) (append_none xs)

use_front : (a : Argument) (φ : Opened) (t : Size) (ls : List Later) → with_use a φ t ls ≡ with_use a φ t [] ++ ls
use_front (Early at value true u) φ t ls = refl
use_front (Early at value false u) φ t ls = refl
use_front (Late at f) φ t ls = refl

-- all of them so far
abbrev pub So_used : List wantings.Wanting → List laters.Later → List laters.Later → ℕ → Type 0
So_used cs before now i = (N : Names) (types : Sub) (ws : List Wanting) → All_want N types cs ws → laters_of now ++ uses (drop i ws) ≡ laters_of before ++ uses ws

pub used_more : (cs : List wantings.Wanting) (before now after : List laters.Later) (i : ℕ) → So_used cs before now i → (c : wantings.Wanting) → i < length cs
    → ((N : Names) (types : Sub) (w : Wanting) → Wants N types (get_or cs i c) w → laters_of after ≡ laters_of now ++ with_use w.argument w.opened w.wanted []) → So_used cs before after (i + 1)
used_more cs before now after i far c l one N types ws all =
    let at : At_place (Wants N types) cs ws i c = each_at (Wants N types) all i l c in
    ap (λ z. z ++ uses (drop (i + 1) ws)) (one N types at.one at.related)
    ∙ append_assoc (laters_of now) (with_use at.one.argument at.one.opened at.one.wanted []) (uses (drop (i + 1) ws))
    ∙ ap (λ z. laters_of now ++ z) (sym (use_front at.one.argument at.one.opened at.one.wanted (uses (drop (i + 1) ws))) ∙ ap (λ z. with_use at.one.argument at.one.opened at.one.wanted (uses (drop z ws))) (add-one i) ∙ ap uses (sym at.behind))
    ∙ far N types ws all

pub used_end : (cs : List wantings.Wanting) (before now : List laters.Later) (i : ℕ) → So_used cs before now i → length cs ≤ i → (N : Names) (types : Sub) (ws : List Wanting) → All_want N types cs ws → laters_of now ≡ laters_of before ++ uses ws
used_end cs before now i far l N types ws all = append_none (laters_of now) ∙ ap (λ z. laters_of now ++ uses z) (sym (each_end (Wants N types) all i l)) ∙ far N types ws all

-- ---- what is given is read

abbrev pub Any_chained : List laters.Later → List laters.Later → Type 0
Any_chained before now = Chained before any_last → Chained now any_last

use_chained : (before now : List laters.Later) (l : laters.Later) → now ≡ before ++ l ∷ [] → l.follows ≡ false → Any_chained before now
use_chained before now l is none c = subst (λ z. Chained z any_last) (sym is) (chained_end any_last any_last l before c (λ x h so. absurd (let z : true ≡ false = sym so ∙ none in cc)) tt)

pub push_chained : (before now : List laters.Later) (l : laters.Later) (r : Result (Unit {0}) NoMemory) → IfOk r (λ u. now ≡ before ++ l ∷ []) → l.follows ≡ false → Chained before any_last → IfOk r (λ u. Chained now any_last)
push_chained before now l (Ok u) is none c = use_chained before now l is none c
push_chained before now l (Err e) is none c = tt

pub concluded : (old new : Application) (table : Found) (cs : List wantings.Wanting) → new.wantings ≡ take 0 old.wantings → opened_of new.gives.frames.now ≡ none_opened → new.gives.goes_on ≡ old.gives.goes_on → new.gives.follows ≡ false
    → new.gives.levels ≡ 0 + levels_within (size_of new.gives.size.now)
    → ((σ : matching.Found) → Holds table σ → size_of new.gives.size.now ≡ read σ (in_opened (opened_of old.gives.frames.now) (size_of old.gives.size.now)))
    → cs ≡ old.wantings → ((N : Names) (types : Sub) (ws : List Wanting) → All_want N types cs ws → laters_of new.later ≡ laters_of old.later ++ uses ws) → Any_chained old.later new.later
    → (N : Names) (types : Sub) (ws : List Wanting) (φ : Opened) (so : Bool) (t : Size) (ls : List Later) (σ : matching.Found) → Goes N types old ws φ so t ls → Holds table σ → Goes N types new [] none_opened so (read σ (in_opened φ t)) (ls ++ uses ws)
concluded old new table cs none closed same first levels gives is later chained N types ws φ so t ls σ goes holds =
    let size_is : size_of new.gives.size.now ≡ read σ (in_opened φ t) = gives σ holds ∙ ap (λ (z : Opened). read σ (in_opened z (size_of old.gives.size.now))) goes.opened ∙ ap (λ z. read σ (in_opened φ z)) goes.gives in
    record {
      wants = subst (λ z. All_want N types z []) (sym none) none_each;
      opened = closed;
      last = same ∙ goes.last;
      gives = size_is;
      later = later N types ws (subst (λ z. All_want N types z ws) (sym is) goes.wants) ∙ ap (λ z. z ++ uses ws) goes.later;
      levels = levels ∙ ap (λ z. 0 + levels_within z) size_is ∙ no_more (levels_within (read σ (in_opened φ t)));
      chained = chained_with any_last (gives_last new) new.later (λ l h follows. absurd (let z : true ≡ false = sym follows ∙ first in cc)) (chained (chained_with (gives_last old) any_last old.later (λ l h. tt) goes.chained));
    }
  where
    no_more : (k : ℕ) → 0 + k ≡ k
    no_more k = omega arith

pub ruleset takes = (no_memory_left)
