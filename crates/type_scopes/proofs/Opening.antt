-- Parts of a program that bind names, and what stands in their scope.
use Rattle.std.proofs.Common.{◌≡◌, ℕ, ◌≤◌, ◌<◌, List, [], ◌∷◌, ◌++◌, length, refl, sym, ◌∙◌, ap, subst, arith, append_assoc}
use mathlib.Core.Logic.{inl, inr}
use native.Mathlib.Decide.{ℕ_discrete}
use Rattle.fut_types.specs.declared.Kind.{Kind}
use Rattle.fut_types.specs.Types.{Ty, Sub, Kinds}
use Rattle.fut_types.specs.Shapes.{Shapes}
use Rattle.fut_typing.specs.Names.{Names}
use Rattle.fut_typing.specs.Primitives.{i64_ty}
use Rattle.fut_typing.specs.Scopes.{Scope, Uses, with_uses, the_one, this_type}
use Rattle.fut_typing.specs.Homes.{Env, one, a_size, scope_of}
use Rattle.fut_typing.proofs.Local.{uses_here, uses_other}
use Rattle.type_graph.specs.Graph.{Tables}
use Rattle.type_scopes.proofs.Putting.{puts_as, puts_none, puts_then, not_then}
use Rattle.type_scopes.specs.declared.names.Known.{Known}
use Rattle.type_scopes.specs.declared.names.Known.TheVariants as known
use Rattle.type_scopes.specs.declared.names.Past.{Past}
use Rattle.type_scopes.specs.declared.Inference.{Inference}
use Rattle.type_scopes.specs.Table.{known_at, with_known, entered, undone}
use Rattle.type_scopes.specs.Scopes.{Stored, Puts, Safe, Reads, Usable, Denoted, Means, Knows, Ready, Later, Same, More, Claim, Homes, Claimed, Opened, Refused, Depends, nothing_claimed}
use Rattle.type_scopes.proofs.Table.{known_same, known_other, long_with, undone_both, undone_none, undone_one}
use Rattle.type_scopes.proofs.Going.{stored_more, extends_none, wider_none, later_then, ready_next}

append_none : {X : Type 0} (xs : List X) → xs ++ [] ≡ xs
append_none [] = refl
append_none (x ∷ xs) = ap (λ l. x ∷ l) (append_none xs)

pub more_none : (i : Inference) → More i i
more_none i = record { added = []; past = sym (append_none i.past); back = undone_none i.names }

pub more_same : (i0 i1 i2 : Inference) → More i0 i1 → Same i1 i2 → More i0 i2
more_same i0 i1 i2 m s = record { added = m.added; past = s.past ∙ m.past; back = ap (undone m.added) s.names ∙ m.back }

pub same_more : (i0 i1 i2 : Inference) → Same i0 i1 → More i1 i2 → More i0 i2
same_more i0 i1 i2 s m = record { added = m.added; past = m.past ∙ ap (λ ps. ps ++ m.added) s.past; back = m.back ∙ s.names }

pub more_then : (i0 i1 i2 : Inference) → More i0 i1 → More i1 i2 → More i0 i2
more_then i0 i1 i2 x y = record {
  added = x.added ++ y.added;
  past = y.past ∙ ap (λ ps. ps ++ y.added) x.past ∙ append_assoc i0.past x.added y.added;
  back = undone_both x.added y.added i2.names ∙ ap (undone x.added) y.back ∙ x.back;
}

-- what was bound is taken back
pub taken_back : (i0 i1 i2 : Inference) → More i0 i1 → ((before added : List Past) → i1.past ≡ before ++ added → length before ≡ length i0.past → i2 ≡ record i1 { names = undone added i1.names; past = before }) → i2 ≡ record i1 { names = i0.names; past = i0.past }
taken_back i0 i1 i2 m back = back i0.past m.added m.past refl ∙ (λ k. record i1 { names = m.back k; past = i0.past })

abbrev pub Both : Kind → Claim → Claim → Claim → (Env → Env) → Type 0
Both places P Q R into = (N : Names) (E : Env) (K : Kinds) (a : Sub) → R N (scope_of N places E) K a → P N (scope_of N places E) K a × Q N (scope_of N places (into E)) K a

abbrev pub Whole : Kind → Claim → Claim → Claim → (Env → Env) → Type 0
Whole places P Q R into = (N : Names) (E : Env) (K : Kinds) (a : Sub) → P N (scope_of N places E) K a → Q N (scope_of N places (into E)) K a → R N (scope_of N places E) K a

module _ (places : Kind) (base d lo hi : ℕ) where
  -- a part that binds names, and then parts that see them
  module _ (P Q R : Claim) (G H I : Homes) (into : Env → Env) (i0 i1 i2 : Inference) (split : Both places P Q R into) (homes : (home : ℕ → ℕ) → I home → G home × H home) (x : Opened places base d lo hi P G into i0 i1) where
    joined : Whole places P Q R into → Later base i1 i2 → ((N : Names) (T : Tables) (home born : ℕ → ℕ) (E : Env) → Reads i2 N T born → Ready N places T home born base E d hi i1 → H home → Puts T born base (Q N (scope_of N places E)) H i1.nodes i2.nodes)
        → (N : Names) (T : Tables) (home born : ℕ → ℕ) (E : Env) → Reads i2 N T born → Ready N places T home born base E d lo i0 → I home → Puts T born base (R N (scope_of N places E)) I i0.nodes i2.nodes
    joined join l y N T home born E r rd h = let g = homes home h in let r1 = l.reads N T born r in
        puts_then T born base (P N (scope_of N places E)) (Q N (scope_of N places (into E))) (R N (scope_of N places E)) G H I i0.nodes i1.nodes i2.nodes (x.adds N T home born E r1 rd g.0) (y N T home born (into E) r (x.ready N T home born E r1 rd g.0) g.1) (split N E) (join N E) homes

    pub opened_then : (end : ℕ) → hi ≤ end → Depends places Q hi end → Whole places P Q R into → Claimed places base d hi Q H i1 i2 → Opened places base d lo end R I into i0 i2
    opened_then end le dep join y = record {
      later = later_then base i0 i1 i2 x.later y.later;
      more = more_same i0 i1 i2 x.more y.same;
      adds = joined join y.later y.adds;
      ready = λ N T home born E r rd h. let g = homes home h in let r1 = y.later.reads N T born r in let rd1 = x.ready N T home born E r1 rd g.0 in
          ready_next N places T home born base (into E) d hi i1 end i2 Q H le dep x.later.safe y.same.names y.later.store y.later.longer rd1 g.1 (y.adds N T home born (into E) r rd1 g.1);
    }

    pub opened_both : (end : ℕ) (on : Env → Env) → Whole places P Q R into → Opened places base d hi end Q H on i1 i2 → Opened places base d lo end R I (λ E. on (into E)) i0 i2
    opened_both end on join y = record {
      later = later_then base i0 i1 i2 x.later y.later;
      more = more_then i0 i1 i2 x.more y.more;
      adds = joined join y.later y.adds;
      ready = λ N T home born E r rd h. let g = homes home h in y.ready N T home born (into E) r (x.ready N T home born E (y.later.reads N T born r) rd g.0) g.1;
    }

    pub opened_refused : Refused places base d hi Q H i1 i2 → Refused places base d lo R I i0 i2
    opened_refused y = record {
      labels = y.labels;
      reads = λ N T born r. x.later.reads N T born (y.reads N T born r);
      nowhere = λ N T home born E r rd h. let g = homes home h in let r1 = y.reads N T born r in
          not_then T born base (P N (scope_of N places E)) (Q N (scope_of N places (into E))) (R N (scope_of N places E)) G i0.nodes i1.nodes (x.adds N T home born E r1 rd g.0) (y.nowhere N T home born (into E) r (x.ready N T home born E r1 rd g.0) g.1) (split N E);
    }

  -- the same, said otherwise
  pub opened_as : (P R : Claim) (H I : Homes) (into on : Env → Env) (i i' : Inference) → Both places P nothing_claimed R (λ E. E) → Whole places P nothing_claimed R (λ E. E) → ((home : ℕ → ℕ) → I home → H home) → into ≡ on → Opened places base d lo hi P H into i i' → Opened places base d lo hi R I on i i'
  opened_as P R H I into on i i' split join homes e x = record {
    later = x.later;
    more = x.more;
    adds = λ N T home born E r rd h. puts_as T born base (P N (scope_of N places E)) (R N (scope_of N places E)) H I i.nodes i'.nodes (λ K a h. (split N E K a h).0) (λ K a p. join N E K a p tt) homes (x.adds N T home born E r rd (homes home h));
    ready = λ N T home born E r rd h. subst (λ f. Ready N places T home born base (f E) d hi i') e (x.ready N T home born E r rd (homes home h));
  }

  -- a part, and then one that binds names, whose numbers begin at mid
  module _ (mid : ℕ) (P Q R : Claim) (G H I : Homes) (on : Env → Env) (i0 i1 i2 : Inference) (s : Safe base i0) (le : lo ≤ mid) (dep : Depends places P lo mid) (homes : (home : ℕ → ℕ) → I home → G home × H home) (x : Claimed places base d lo P G i0 i1) where
    behind : (N : Names) (T : Tables) (home born : ℕ → ℕ) (E : Env) → Reads i1 N T born → Ready N places T home born base E d lo i0 → G home → Ready N places T home born base E d mid i1
    behind N T home born E r rd g = ready_next N places T home born base E d lo i0 mid i1 P G le dep s x.same.names x.later.store x.later.longer rd g (x.adds N T home born E r rd g)

    pub then_opened : Both places P Q R (λ E. E) → Whole places P Q R (λ E. E) → Opened places base d mid hi Q H on i1 i2 → Opened places base d lo hi R I on i0 i2
    then_opened split join y = record {
      later = later_then base i0 i1 i2 x.later y.later;
      more = same_more i0 i1 i2 x.same y.more;
      adds = λ N T home born E r rd h. let g = homes home h in let r1 = y.later.reads N T born r in
          puts_then T born base (P N (scope_of N places E)) (Q N (scope_of N places E)) (R N (scope_of N places E)) G H I i0.nodes i1.nodes i2.nodes (x.adds N T home born E r1 rd g.0) (y.adds N T home born E r (behind N T home born E r1 rd g.0) g.1) (split N E) (join N E) homes;
      ready = λ N T home born E r rd h. let g = homes home h in y.ready N T home born E r (behind N T home born E (y.later.reads N T born r) rd g.0) g.1;
    }

  -- what it binds is taken back
  pub later_back : (i0 i1 : Inference) → Safe base i0 → Later base i0 i1 → Later base i0 (record i1 { names = i0.names; past = i0.past })
  later_back i0 i1 s l = record {
    safe = record {
      table = l.safe.table;
      labels = l.safe.labels;
      sound = l.safe.sound;
      inside = l.safe.inside;
      short = l.safe.short;
      stored = λ b lt. stored_more base (length i0.nodes) (length i1.nodes) i0.table i1.table i0.store i1.store (known_at i0.names b) l.longer l.wider l.store l.safe.short (s.stored b lt);
    };
    reads = λ N T born r. l.reads N T born (record { names = r.names; labelled = r.labelled; shapes = r.shapes; told = r.told; seats = r.seats });
    seats = l.seats;
    keeps = λ N T born r. l.keeps N T born (record { names = r.names; labelled = r.labelled; shapes = r.shapes; told = r.told; seats = r.seats });
    longer = l.longer;
    store = l.store;
    names = refl;
    wider = l.wider;
  }

  closed_adds : (R : Claim) (I : Homes) (i0 i1 i2 : Inference) → Safe base i0 → Later base i0 i1 → More i0 i1
      → ((N : Names) (T : Tables) (home born : ℕ → ℕ) (E : Env) → Reads i1 N T born → Ready N places T home born base E d lo i0 → I home → Puts T born base (R N (scope_of N places E)) I i0.nodes i1.nodes)
      → ((before added : List Past) → i1.past ≡ before ++ added → length before ≡ length i0.past → i2 ≡ record i1 { names = undone added i1.names; past = before }) → Claimed places base d lo R I i0 i2
  closed_adds R I i0 i1 i2 s l m adds back =
      subst (λ (i : Inference). Claimed places base d lo R I i0 i) (sym (taken_back i0 i1 i2 m back)) (record {
        later = later_back i0 i1 s l;
        same = record { names = refl; past = refl };
        adds = λ N T home born E r rd h. adds N T home born E (record { names = r.names; labelled = r.labelled; shapes = r.shapes; told = r.told; seats = r.seats }) rd h;
      })

  pub closed : (R : Claim) (I : Homes) (into : Env → Env) (i0 i1 i2 : Inference) → Safe base i0 → Opened places base d lo hi R I into i0 i1
      → ((before added : List Past) → i1.past ≡ before ++ added → length before ≡ length i0.past → i2 ≡ record i1 { names = undone added i1.names; past = before }) → Claimed places base d lo R I i0 i2
  closed R I into i0 i1 i2 s x back = closed_adds R I i0 i1 i2 s x.later x.more x.adds back

  -- a last claim, and then what was bound is taken back
  pub closed_after : (P Q R : Claim) (G H I : Homes) (into : Env → Env) (i0 i1 i2 i3 : Inference) → Safe base i0 → Both places P Q R into → ((home : ℕ → ℕ) → I home → G home × H home) → Opened places base d lo hi P G into i0 i1 → Whole places P Q R into → Claimed places base d hi Q H i1 i2
      → ((before added : List Past) → i2.past ≡ before ++ added → length before ≡ length i0.past → i3 ≡ record i2 { names = undone added i2.names; past = before }) → Claimed places base d lo R I i0 i3
  closed_after P Q R G H I into i0 i1 i2 i3 s split homes x join y back = closed_adds R I i0 i2 i3 s (later_then base i0 i1 i2 x.later y.later) (more_same i0 i1 i2 x.more y.same) (joined P Q R G H I into i0 i1 i2 split homes x join y.later y.adds) back

-- a name is bound
pub safe_with : (base : ℕ) (i : Inference) (b : ℕ) (k : Known) (past : List Past) → b < length i.names → Safe base i → Stored base (length i.nodes) i.table i.store k → Safe base (record i { names = with_known i.names b k; past = past })
safe_with base i b k past inn s st = record {
  table = s.table;
  labels = s.labels;
  sound = s.sound;
  inside = s.inside;
  short = s.short;
  stored = λ j lt. elim (ℕ_discrete j b) as (λ d. Stored base (length i.nodes) i.table i.store (known_at (with_known i.names b k) j)) [
    | yes z ↦ subst (λ m. Stored base (length i.nodes) i.table i.store (known_at (with_known i.names b k) m)) (sym z) (subst (Stored base (length i.nodes) i.table i.store) (sym (known_same i.names b k inn)) st)
    | no ne ↦ subst (Stored base (length i.nodes) i.table i.store) (sym (known_other i.names b j k ne)) (s.stored j (subst (λ n. j < n) (long_with i.names b k) lt))
  ];
}

pub knows_with : (S : Shapes) (i : Inference) (b : ℕ) (k : Known) (past : List Past) (uses : Uses) (scope : Scope) (K : Kinds) (full : Sub) → b < length i.names → Means S i.store k uses (scope.types b) K full → Knows S i scope K full → Knows S (record i { names = with_known i.names b k; past = past }) (with_uses b uses scope) K full
knows_with S i b k past uses scope K full inn m kn j lt = elim (ℕ_discrete j b) as (λ d. Means S i.store (known_at (with_known i.names b k) j) ((with_uses b uses scope).uses j) (scope.types j) K full) [
  | yes z ↦ subst (λ n. Means S i.store (known_at (with_known i.names b k) n) ((with_uses b uses scope).uses n) (scope.types n) K full) (sym z)
      (subst (λ (x : Known). Means S i.store x ((with_uses b uses scope).uses b) (scope.types b) K full) (sym (known_same i.names b k inn)) (subst (λ (w : Uses). Means S i.store k w (scope.types b) K full) (sym (uses_here b uses scope)) m))
  | no ne ↦ subst (λ (x : Known). Means S i.store x ((with_uses b uses scope).uses j) (scope.types j) K full) (sym (known_other i.names b j k ne))
      (subst (λ (w : Uses). Means S i.store (known_at i.names j) w (scope.types j) K full) (sym (uses_other b uses scope j ne)) (kn j (subst (λ n. j < n) (long_with i.names b k) lt)))
]

module _ (places : Kind) (base d hi : ℕ) (i : Inference) (b : ℕ) (s : Safe base i) (inn : b < length i.names) where
  pub later_entered : (k : Known) → Stored base (length i.nodes) i.table i.store k → Later base i (entered i b k)
  later_entered k st = record {
    safe = safe_with base i b k (i.past ++ record { name = b; known = known_at i.names b } ∷ []) inn s st;
    reads = λ N T born r. record { names = r.names; labelled = r.labelled; shapes = r.shapes; told = r.told; seats = r.seats };
    seats = λ n h. refl;
    keeps = λ N T born r K a so. so;
    longer = omega arith;
    store = extends_none i.store;
    names = long_with i.names b k;
    wider = wider_none i.table;
  }

  pub more_entered : (k : Known) → More i (entered i b k)
  more_entered k = record { added = record { name = b; known = known_at i.names b } ∷ []; past = refl; back = undone_one i.names b k inn }

  -- a name that was not in scope before stands for no type
  pub means_uses : (S : Shapes) (k : Known) (uses : Uses) (scope : Scope) (K : Kinds) (full : Sub) → known_at i.names b ≡ known.Nothing → Knows S i scope K full → ((t : Ty) → (uses K full t → Usable S i.store k K full t) × (Usable S i.store k K full t → uses K full t)) → ((t : Ty) → Denoted k full t → ⊥) → Means S i.store k uses (scope.types b) K full
  means_uses S k uses scope K full fresh kn say none = record {
    usable = λ t. (say t).0;
    used = λ t. (say t).1;
    denoted = λ t h. absurd ((subst (λ (x : Known). Means S i.store x (scope.uses b) (scope.types b) K full) fresh (kn b inn)).denoted t h);
    denotes = λ t h. absurd (none t h);
  }

  -- a value of the type of a number
  pub opened_number : known_at i.names b ≡ known.Nothing → (p : ℕ) → p < base → p < hi → Opened places base d hi hi nothing_claimed (λ home. home p ≡ d) (one b p) i (entered i b (known.Number p))
  opened_number fresh p pb ph = record {
    later = later_entered (known.Number p) pb;
    more = more_entered (known.Number p);
    adds = λ N T home born E r rd h. puts_none T born base (λ K a. Unit {0}) (λ home. home p ≡ d) i.nodes (λ K a. tt);
    ready = λ N T home born E r rd h. record {
      depth = rd.depth;
      outer = rd.outer;
      state = rd.state;
      backed = rd.backed;
      plain = rd.plain;
      narrow = λ n. elim [ inl e ↦ (omega arith, let z : home n ≡ home p = ap home e in omega arith) | inr m ↦ rd.narrow n m ];
      knows = λ K full so. knows_with T.shapes i b (known.Number p) (i.past ++ record { name = b; known = known_at i.names b } ∷ []) (the_one p) (scope_of N places E) K full inn (means_uses T.shapes (known.Number p) (the_one p) (scope_of N places E) K full fresh (rd.knows K full so) (λ t. ((λ e. e), (λ e. e))) (λ t z. z)) (rd.knows K full so);
      below = rd.below;
    };
  }

  -- a size
  pub opened_size : known_at i.names b ≡ known.Nothing → Opened places base d hi hi nothing_claimed (λ home. Unit {0}) (a_size b) i (entered i b known.Size)
  opened_size fresh = record {
    later = later_entered known.Size tt;
    more = more_entered known.Size;
    adds = λ N T home born E r rd h. puts_none T born base (λ K a. Unit {0}) (λ home. Unit {0}) i.nodes (λ K a. tt);
    ready = λ N T home born E r rd h. record {
      depth = rd.depth;
      outer = rd.outer;
      state = rd.state;
      backed = rd.backed;
      plain = rd.plain;
      narrow = rd.narrow;
      knows = λ K full so. knows_with T.shapes i b known.Size (i.past ++ record { name = b; known = known_at i.names b } ∷ []) (this_type i64_ty) (scope_of N places E) K full inn (means_uses T.shapes known.Size (this_type i64_ty) (scope_of N places E) K full fresh (rd.knows K full so) (λ t. ((λ e. e), (λ e. e))) (λ t z. z)) (rd.knows K full so);
      below = rd.below;
    };
  }
