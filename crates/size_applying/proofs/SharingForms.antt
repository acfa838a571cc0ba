-- Sized types that the nodes of an application share.
use Rattle.std.proofs.Common.{◌≡◌, ℕ, suc, ◌+◌, ◌-◌, ◌<◌, ◌≤◌, Bool, true, false, cond, nat_lt, List, [], ◌∷◌, ◌++◌, length, get_or, drop, Result, Ok, Err, refl, sym, ap, ◌∙◌, subst, arith, lt-ltb, le-ltb, ltb-true, ltb-false}
use Rattle.std.specs.Borrow.{Bor}
use Rattle.std.specs.Prelude.{IfOk}
use Rattle.fut_scalar.specs.declared.memory.NoMemory.{NoMemory}
use Rattle.fut_types.specs.declared.Head.{Head}
use Rattle.sized_types.specs.Sizes.{Dim, At, Bound, Size, Hole, Open, Level, Built, Fun, Sizes, no_size, size_and, replaced, all_replaced}
use Rattle.fut_sizes.specs.Matching.{Opened, dim_in, in_opened, inside, lifted, none_opened}
use Rattle.fut_sizes.specs.Suiting.{Each, Each_all, Scoped}
use Rattle.size_arena.specs.declared.dims.Dim as dims
use Rattle.size_arena.specs.declared.dims.Variable.{Variable}
use Rattle.size_arena.specs.declared.trees.SizeTree.{SizeTree}
use Rattle.size_arena.specs.declared.trees.SizeTree.TheVariants as form
use Rattle.size_arena.specs.declared.types.TypeTree.{TypeTree}
use Rattle.size_arena.specs.Frames.{opened_of}
use Rattle.size_arena.specs.Trees.{dim_of, size_of, sizes_of}
use Rattle.size_arena.proofs.Parts.{parts_at, parts_end}
use Rattle.size_applying.specs.declared.arguments.Later as laters
use Rattle.size_applying.specs.Sharing.{Within_frames, Apart, Leads, Leads_to, Chain, Chained}
use Rattle.size_applying.specs.Wanted.{later_size}
use Rattle.size_applying.proofs.ArgumentForms.{hole_at, open_at, level_at, built_at, fun_at}

-- ---- what names no position of the function types that are opened

dim_stays : (φ : Opened) (j : ℕ) (d : Dim) → Scoped (λ x. Unit {0}) j d → dim_in φ j d ≡ d
dim_stays φ j (At d) h = refl
dim_stays φ j (Bound k i) h = ap (λ z. cond z (Bound k i) (lifted j (φ (k - j) i))) (lt-ltb k j h)

mutual
  unfolding replaced all_replaced Each Each_all

  stays : (φ : Opened) (j : ℕ) (t : Size) → Within_frames j t → replaced (dim_in φ) j t ≡ t
  stays φ j (Hole v) h = refl
  stays φ j (Open n v u) h = refl
  stays φ j (Level d t) h = ap (λ z. Level z (replaced (dim_in φ) j t)) (dim_stays φ j d h.0) ∙ ap (Level d) (stays φ j t h.1)
  stays φ j (Built g ts) h = ap (Built g) (all_stay φ j ts h)
  stays φ j (Fun k p r) h = ap (λ z. Fun k z (replaced (dim_in φ) (suc j) r)) (stays φ (suc j) p h.0) ∙ ap (Fun k p) (stays φ (suc j) r h.1)

  all_stay : (φ : Opened) (j : ℕ) (ts : Sizes) → Each_all (Scoped (λ x. Unit {0})) j ts → all_replaced (dim_in φ) j ts ≡ ts
  all_stay φ j no_size h = refl
  all_stay φ j (size_and t ts) h = ap (λ z. size_and z (all_replaced (dim_in φ) j ts)) (stays φ j t h.0) ∙ ap (size_and t) (all_stay φ j ts h.1)

-- ---- one function type after those around it

module _ (f : ℕ → Dim) (φ : Opened) where
  near : (j k i : ℕ) → k < j → dim_in φ j (Bound k i) ≡ Bound k i
  near j k i h = dim_stays φ j (Bound k i) h

  outer : (j : ℕ) (e : Dim) → dim_in (inside f none_opened) j (lifted (suc j) e) ≡ lifted j e
  unfolding inside
  outer j (At d) = refl
  outer j (Bound b m) =
      ap (λ z. cond z (Bound (suc j + b) m) (lifted j (inside f none_opened ((suc j + b) - j) m))) (le-ltb (suc j + b) j (omega arith))
      ∙ ap (λ z. lifted j (inside f none_opened z m)) (let z : (suc j + b) - j ≡ suc b = omega arith in z)

  dim_after : (j : ℕ) (d : Dim) → dim_in (inside f none_opened) j (dim_in φ (suc j) d) ≡ dim_in (inside f φ) j d
  unfolding inside
  dim_after j (At d) = refl
  dim_after j (Bound k i) = by_order (nat_lt k (suc j)) refl
    where
      here : (b : Bool) → nat_lt k j ≡ b → k < suc j → dim_in (inside f none_opened) j (Bound k i) ≡ dim_in (inside f φ) j (Bound k i)
      here true e l = ap (λ z. cond z (Bound k i) (lifted j (inside f none_opened (k - j) i))) e ∙ sym (ap (λ z. cond z (Bound k i) (lifted j (inside f φ (k - j) i))) e)
      here false e l = let m = ltb-false k j e in let z : k - j ≡ 0 = omega (arith, l, m) in
          ap (λ z. cond z (Bound k i) (lifted j (inside f none_opened (k - j) i))) e ∙ ap (λ z. lifted j (inside f none_opened z i)) z
          ∙ sym (ap (λ z. cond z (Bound k i) (lifted j (inside f φ (k - j) i))) e ∙ ap (λ z. lifted j (inside f φ z i)) z)

      by_order : (b : Bool) → nat_lt k (suc j) ≡ b → dim_in (inside f none_opened) j (dim_in φ (suc j) (Bound k i)) ≡ dim_in (inside f φ) j (Bound k i)
      by_order true e = ap (dim_in (inside f none_opened) j) (near (suc j) k i (ltb-true k (suc j) e)) ∙ here (nat_lt k j) refl (ltb-true k (suc j) e)
      by_order false e = let m = ltb-false k (suc j) e in let z : k - j ≡ suc (k - suc j) = omega (arith, m) in
          ap (λ z. dim_in (inside f none_opened) j (cond z (Bound k i) (lifted (suc j) (φ (k - suc j) i)))) e ∙ outer j (φ (k - suc j) i)
          ∙ sym (ap (λ z. cond z (Bound k i) (lifted j (inside f φ (k - j) i))) (le-ltb k j (omega (arith, m))) ∙ ap (λ z. lifted j (inside f φ z i)) z)

  mutual
    unfolding replaced all_replaced

    after : (j : ℕ) (t : Size) → replaced (dim_in (inside f none_opened)) j (replaced (dim_in φ) (suc j) t) ≡ replaced (dim_in (inside f φ)) j t
    after j (Hole v) = refl
    after j (Open n v u) = refl
    after j (Level d t) = rw (dim_after j d, after j t) refl
    after j (Built g ts) = ap (Built g) (all_after j ts)
    after j (Fun k p r) = rw (after (suc j) p, after (suc j) r) refl

    all_after : (j : ℕ) (ts : Sizes) → all_replaced (dim_in (inside f none_opened)) j (all_replaced (dim_in φ) (suc j) ts) ≡ all_replaced (dim_in (inside f φ)) j ts
    all_after j no_size = refl
    all_after j (size_and t ts) = rw (after j t, all_after j ts) refl

  -- what an arrow gives is opened in what the whole function type is where those around it are
  pub opened_after : (r : Size) → in_opened (inside f none_opened) (replaced (dim_in φ) 1 r) ≡ in_opened (inside f φ) r
  opened_after r = after 0 r

-- ---- how many function types there are around

dim_wider : (d : Dim) (m n : ℕ) → m ≤ n → Scoped (λ x. Unit {0}) m d → Scoped (λ x. Unit {0}) n d
dim_wider (At d) m n l h = tt
dim_wider (Bound k i) m n l h = omega (arith, l, h)

mutual
  unfolding Each Each_all

  wider : (t : Size) (m n : ℕ) → m ≤ n → Within_frames m t → Within_frames n t
  wider (Hole v) m n l h = tt
  wider (Open q v u) m n l h = tt
  wider (Level d t) m n l h = (dim_wider d m n l h.0, wider t m n l h.1)
  wider (Built g ts) m n l h = all_wider ts m n l h
  wider (Fun k p r) m n l h = (wider p (suc m) (suc n) (omega (arith, l)) h.0, wider r (suc m) (suc n) (omega (arith, l)) h.1)

  all_wider : (ts : Sizes) (m n : ℕ) → m ≤ n → Each_all (Scoped (λ x. Unit {0})) m ts → Each_all (Scoped (λ x. Unit {0})) n ts
  all_wider no_size m n l h = tt
  all_wider (size_and t ts) m n l h = (wider t m n l h.0, all_wider ts m n l h.1)

module _ (t : SizeTree) where
  pub hole_within : (v : Variable) → t ≡ form.Hole v → Within_frames 0 (size_of t)
  unfolding Each
  hole_within v is = subst (Within_frames 0) (sym (hole_at t v is)) tt

  pub open_within : (n : ℕ) (v : Variable) (u : Bor TypeTree) → t ≡ form.Open n v u → Within_frames 0 (size_of t)
  unfolding Each
  open_within n v u is = subst (Within_frames 0) (sym (open_at t n v u is)) tt

  pub level_within : (height : ℕ) (d : dims.Dim) (r : Bor SizeTree) (a b c : ℕ) → t ≡ form.Level height d r → Scoped (λ x. Unit {0}) a (dim_of d) → Within_frames b (size_of r.now) → a ≤ c → b ≤ c → Within_frames c (size_of t)
  unfolding Each
  level_within height d r a b c is own under l m = subst (Within_frames c) (sym (level_at t height d r is)) (dim_wider (dim_of d) a c l own, wider (size_of r.now) b c m under)

  built_within : (height : ℕ) (h : Head) (ts : Bor (List SizeTree)) (c : ℕ) → t ≡ form.Built height h ts → Each_all (Scoped (λ x. Unit {0})) c (sizes_of ts.now) → Within_frames c (size_of t)
  unfolding Each
  built_within height h ts c is all = subst (Within_frames c) (sym (built_at t height h ts is)) all

  pub all_within : (height : ℕ) (h : Head) (ts : Bor (List SizeTree)) (o : Result ℕ NoMemory) → t ≡ form.Built height h ts → IfOk o (λ c. Each_all (Scoped (λ x. Unit {0})) c (sizes_of ts.now)) → IfOk o (λ c. Within_frames c (size_of t))
  all_within height h ts (Ok c) is all = built_within height h ts c is all
  all_within height h ts (Err e) is all = tt

  pub fun_within : (height k : ℕ) (p r : Bor SizeTree) (a b g c : ℕ) → t ≡ form.Fun height k p r → Within_frames a (size_of p.now) → Within_frames b (size_of r.now) → a ≤ g → b ≤ g → g ≤ suc c → Within_frames c (size_of t)
  unfolding Each
  fun_within height k p r a b g c is from to l m n = subst (Within_frames c) (sym (fun_at t height k p r is)) (wider (size_of p.now) a (suc c) (omega (arith, l, n)) from, wider (size_of r.now) b (suc c) (omega (arith, m, n)) to)

  pub fun_apart : (height k n : ℕ) (p r : Bor SizeTree) → t ≡ form.Fun height k p r → Apart n (Fun k (size_of p.now) (size_of r.now)) → Apart n (size_of t)
  fun_apart height k n p r is so = subst (Apart n) (sym (fun_at t height k p r is)) so

pub none_apart : (t : Size) → Apart 0 t
unfolding Apart
none_apart t = tt

pub one_apart : (m b k : ℕ) (p r : Size) → m ≡ suc b → Within_frames 0 r → Apart b r → Apart m (Fun k p r)
unfolding Apart
one_apart m b k p r e within apart = subst (λ z. Apart z (Fun k p r)) (sym e) (within, apart)

pub next_apart : (o : Result ℕ NoMemory) (b f k : ℕ) (p r : Size) → IfOk o (λ n. n ≡ suc b) → f ≡ 0 → Within_frames f r → Apart b r → IfOk o (λ n. Apart n (Fun k p r))
next_apart (Ok n) b f k p r e none within apart = one_apart n b k p r e (subst (λ z. Within_frames z r) none within) apart
next_apart (Err e) b f k p r h none within apart = tt

-- the parts before one are within what the greatest of them asks for
abbrev pub So_within : List SizeTree → ℕ → ℕ → Type 0
So_within ts most i = (n : ℕ) → most ≤ n → Each_all (Scoped (λ x. Unit {0})) n (sizes_of (drop i ts)) → Each_all (Scoped (λ x. Unit {0})) n (sizes_of ts)

pub within_more : (ts : List SizeTree) (i most count next : ℕ) (t : SizeTree) → i < length ts → So_within ts most i → Within_frames count (size_of (get_or ts i t)) → most ≤ next → count ≤ next → So_within ts next (i + 1)
unfolding Each_all
within_more ts i most count next t l so_far one a b n m rest =
    so_far n (omega (arith, a, m)) (subst (Each_all (Scoped (λ x. Unit {0})) n) (sym (parts_at ts i t l)) (wider (size_of (get_or ts i t)) count n (omega (arith, b, m)) one, rest))

pub within_end : (ts : List SizeTree) (i most : ℕ) → length ts ≤ i → So_within ts most i → Each_all (Scoped (λ x. Unit {0})) most (sizes_of ts)
unfolding Each_all
within_end ts i most l so_far = so_far most (omega arith) (subst (Each_all (Scoped (λ x. Unit {0})) most) (sym (parts_end ts i l)) tt)

-- ---- one node after another

chain_end : (P Q : laters.Later → Type 0) (l m : laters.Later) (ls : List laters.Later) → Chain l ls P → ((x : laters.Later) → P x → Leads_to x m) → Q m → Chain l (ls ++ m ∷ []) Q
chain_end P Q l m [] c leads q = (leads l c, q)
chain_end P Q l m (x ∷ ls) c leads q = (c.0, chain_end P Q x m ls c.1 leads q)

pub chained_end : (P Q : laters.Later → Type 0) (m : laters.Later) (ls : List laters.Later) → Chained ls P → ((x : laters.Later) → P x → Leads_to x m) → Q m → Chained (ls ++ m ∷ []) Q
chained_end P Q m [] c leads q = q
chained_end P Q m (l ∷ ls) c leads q = chain_end P Q l m ls c leads q

chain_with : (P Q : laters.Later → Type 0) (l : laters.Later) (ls : List laters.Later) → ((x : laters.Later) → P x → Q x) → Chain l ls P → Chain l ls Q
chain_with P Q l [] h c = h l c
chain_with P Q l (x ∷ ls) h c = (c.0, chain_with P Q x ls h c.1)

pub chained_with : (P Q : laters.Later → Type 0) (ls : List laters.Later) → ((x : laters.Later) → P x → Q x) → Chained ls P → Chained ls Q
chained_with P Q [] h c = tt
chained_with P Q (l ∷ ls) h c = chain_with P Q l ls h c

chain_behind : (P : laters.Later → Type 0) (l : laters.Later) (ls : List laters.Later) → Chain l ls P → Chained ls P
chain_behind P l [] c = tt
chain_behind P l (m ∷ ls) c = c.1

pub chained_behind : (P : laters.Later → Type 0) (l : laters.Later) (ls : List laters.Later) → Chained (l ∷ ls) P → Chained ls P
chained_behind P l ls c = chain_behind P l ls c

-- ---- what a node gives is what the next one has, where it names none of its positions

module _ (l m : laters.Later) (leads : Leads l (opened_of m.frames.now) (size_of m.size.now)) where
  abbrev pub before_from : Size
  before_from = replaced (dim_in (opened_of l.frames.now)) 1 leads.from

  abbrev pub before_to : Size
  before_to = replaced (dim_in (opened_of l.frames.now)) 1 (size_of m.size.now)

  pub before_is : later_size l ≡ Fun leads.chosen before_from before_to
  unfolding replaced
  before_is = ap (in_opened (opened_of l.frames.now)) leads.is

  pub behind_is : Within_frames 0 before_to → before_to ≡ later_size m
  behind_is within = sym (stays (inside leads.frame none_opened) 0 before_to within) ∙ opened_after leads.frame (opened_of l.frames.now) (size_of m.size.now) ∙ ap (λ (z : Opened). in_opened z (size_of m.size.now)) (sym leads.opened)
