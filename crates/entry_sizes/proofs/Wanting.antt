-- The arguments that an entry wants, level by level and arrow by arrow.
use Rattle.std.proofs.Common.{◌≡◌, ℕ, zero, suc, ◌+◌, ◌-◌, ◌<◌, List, [], ◌∷◌, ◌++◌, length, true, false, Option, Some, None, refl, sym, ap, subst, ◌∙◌, arith}
use Rattle.std.proofs.lemmas.List.{append_assoc}
use Rattle.fut_scalar.specs.declared.sizes.ArgType.{ArgType}
use Rattle.fut_scalar.specs.declared.sizes.DataType.{DataType}
use Rattle.fut_scalar.specs.declared.sizes.Dim.{Dim as Wanted_size}
use Rattle.sized_types.specs.Sizes.{Dim, Size, Hole, Open, Level, Built, Fun}
use Rattle.entry_sizes.specs.Heads.{is_array, is_function}
use Rattle.entry_sizes.specs.Wanted.{Are_wanted, argument, on_some, size_wanted, sizes_wanted, wanted_of, wanted_on}
use Rattle.entry_sizes.specs.declared.wanted.Frame.{Frame}

-- ---- levels

-- one level more, of this size
pub level_more : (frames : List Frame) (before : List Wanted_size) (n : ℕ) (t r : Size) (d : Dim) (w : Wanted_size) → t ≡ Level d r → size_wanted frames d ≡ Some w → sizes_wanted frames before (suc n) t ≡ sizes_wanted frames (before ++ w ∷ []) n r
level_more frames before n t r d w is e = ap (sizes_wanted frames before (suc n)) is ∙ ap (λ o. on_some o (λ size. sizes_wanted frames (before ++ size ∷ []) n r)) e

-- of so many levels, one is taken
pub level_taken : (frames : List Frame) (before after : List Wanted_size) (n : ℕ) (t r : Size) (d : Dim) (w : Wanted_size) (all : Option (List Wanted_size)) → 0 < n → t ≡ Level d r → size_wanted frames d ≡ Some w → after ≡ before ++ w ∷ []
    → sizes_wanted frames before n t ≡ all → sizes_wanted frames after (n - 1) r ≡ all
level_taken frames before after zero t r d w all lt is e p h = absurd (let z : 0 < 0 = lt in omega arith)
level_taken frames before after (suc n) t r d w all lt is e p h =
    let same : n ≡ suc n - 1 = omega arith in
    subst (λ k. sizes_wanted frames after k r ≡ all) same (ap (λ b. sizes_wanted frames b n r) p ∙ sym (level_more frames before n t r d w is e) ∙ h)

pub level_none : (frames : List Frame) (before : List Wanted_size) (n : ℕ) (t r : Size) (d : Dim) → t ≡ Level d r → size_wanted frames d ≡ None → sizes_wanted frames before (suc n) t ≡ None
level_none frames before n t r d is e = ap (sizes_wanted frames before (suc n)) is ∙ ap (λ o. on_some o (λ size. sizes_wanted frames (before ++ size ∷ []) n r)) e

pub no_level : (frames : List Frame) (before : List Wanted_size) (n : ℕ) (t : Size) → is_array t ≡ false → sizes_wanted frames before (suc n) t ≡ None
no_level frames before n (Hole v) e = refl
no_level frames before n (Open m v u) e = refl
no_level frames before n (Level d t) e = absurd (let z : true ≡ false = e in cc)
no_level frames before n (Built h ts) e = refl
no_level frames before n (Fun k p r) e = refl

-- ---- arrows

pub arrow_more : (before : List ArgType) (frames : List Frame) (first : ℕ) (s : DataType) (ss : List DataType) (t p r : Size) (k : ℕ) (dims : List Wanted_size)
    → t ≡ Fun k p r → sizes_wanted (frames ++ record { first = first; chosen = k } ∷ []) [] s.rank p ≡ Some dims
    → wanted_on before frames first (s ∷ ss) t ≡ wanted_on (before ++ argument s dims (first + k) ∷ []) (frames ++ record { first = first; chosen = k } ∷ []) (first + k + 1) ss r
arrow_more before frames first s ss t p r k dims is e =
    ap (wanted_on before frames first (s ∷ ss)) is ∙ ap (λ o. on_some o (λ dims. wanted_on (before ++ argument s dims (first + k) ∷ []) (frames ++ record { first = first; chosen = k } ∷ []) (first + k + 1) ss r)) e

pub arrow_none : (before : List ArgType) (frames : List Frame) (first : ℕ) (s : DataType) (ss : List DataType) (t p r : Size) (k : ℕ)
    → t ≡ Fun k p r → sizes_wanted (frames ++ record { first = first; chosen = k } ∷ []) [] s.rank p ≡ None → wanted_on before frames first (s ∷ ss) t ≡ None
arrow_none before frames first s ss t p r k is e =
    ap (wanted_on before frames first (s ∷ ss)) is ∙ ap (λ o. on_some o (λ dims. wanted_on (before ++ argument s dims (first + k) ∷ []) (frames ++ record { first = first; chosen = k } ∷ []) (first + k + 1) ss r)) e

pub no_arrow : (before : List ArgType) (frames : List Frame) (first : ℕ) (s : DataType) (ss : List DataType) (t : Size) → is_function t ≡ false → wanted_on before frames first (s ∷ ss) t ≡ None
no_arrow before frames first s ss (Hole v) e = refl
no_arrow before frames first s ss (Open m v u) e = refl
no_arrow before frames first s ss (Level d t) e = refl
no_arrow before frames first s ss (Built h ts) e = refl
no_arrow before frames first s ss (Fun k p r) e = absurd (let z : true ≡ false = e in cc)

-- ---- what is wanted is of the types of the parameters

one_more : (ds : List Wanted_size) (w : Wanted_size) → length (ds ++ w ∷ []) ≡ suc (length ds)
one_more [] w = refl
one_more (d ∷ ds) w = ap suc (one_more ds w)

some_is : {A : Type 0} (x y : A) → Some x ≡ Some y → x ≡ y
some_is x y e = cc

none_is : {A : Type 0} (y : A) → None ≡ Some y → ⊥
none_is y e = cc

-- what gave something had something
went_on : {A B : Type 0} (o : Option A) (next : A → Option B) (y : B) → on_some o next ≡ Some y → (x : A) × (o ≡ Some x) × (next x ≡ Some y)
went_on (Some x) next y e = (x, refl, e)
went_on None next y e = absurd (none_is y e)

as_many : (frames : List Frame) (before : List Wanted_size) (n : ℕ) (t : Size) (dims : List Wanted_size) → sizes_wanted frames before n t ≡ Some dims → length dims ≡ length before + n
as_many frames before zero t dims e = let l = ap length (some_is before dims e) in omega (arith, l)
as_many frames before (suc n) (Level d t) dims e =
    let w = went_on (size_wanted frames d) (λ size. sizes_wanted frames (before ++ size ∷ []) n t) dims e in
    let h = as_many frames (before ++ w.0 ∷ []) n t dims w.2 in
    let l = one_more before w.0 in omega (arith, h, l)
as_many frames before (suc n) (Hole v) dims e = absurd (none_is dims e)
as_many frames before (suc n) (Open m v u) dims e = absurd (none_is dims e)
as_many frames before (suc n) (Built h ts) dims e = absurd (none_is dims e)
as_many frames before (suc n) (Fun k p r) dims e = absurd (none_is dims e)

-- behind those of some parameters, those of the others
are_more : (ss : List DataType) (args : List ArgType) (s : DataType) (a : ArgType) → Are_wanted ss args → (a.elem ≡ s.elem) × (length a.dims ≡ s.rank) → Are_wanted (ss ++ s ∷ []) (args ++ a ∷ [])
are_more [] [] s a h x = (x, tt)
are_more [] (b ∷ bs) s a h x = absurd h
are_more (t ∷ ts) [] s a h x = absurd h
are_more (t ∷ ts) (b ∷ bs) s a h x = (h.0, are_more ts bs s a h.1 x)

all_of : (ss : List DataType) → ss ++ [] ≡ ss
all_of [] = refl
all_of (s ∷ ss) = ap (λ z. s ∷ z) (all_of ss)

typed_on : (done : List DataType) (before : List ArgType) (frames : List Frame) (first : ℕ) (ss : List DataType) (t : Size) (wanted : List ArgType) → Are_wanted done before → wanted_on before frames first ss t ≡ Some wanted → Are_wanted (done ++ ss) wanted
typed_on done before frames first [] t wanted h e = subst (Are_wanted (done ++ [])) (some_is before wanted e) (subst (λ ss. Are_wanted ss before) (sym (all_of done)) h)
typed_on done before frames first (s ∷ ss) (Fun k p r) wanted h e =
    let inner : List Frame = frames ++ record { first = first; chosen = k } ∷ [] in
    let w = went_on (sizes_wanted inner [] s.rank p) (λ dims. wanted_on (before ++ argument s dims (first + k) ∷ []) inner (first + k + 1) ss r) wanted e in
    let many = as_many inner [] s.rank p w.0 w.1 in
    let long : length w.0 ≡ s.rank = omega (arith, many) in
    subst (λ z. Are_wanted z wanted) (append_assoc done (s ∷ []) ss)
    (typed_on (done ++ s ∷ []) (before ++ argument s w.0 (first + k) ∷ []) inner (first + k + 1) ss r wanted (are_more done before s (argument s w.0 (first + k)) h (refl, long)) w.2)
typed_on done before frames first (s ∷ ss) (Hole v) wanted h e = absurd (none_is wanted e)
typed_on done before frames first (s ∷ ss) (Open m v u) wanted h e = absurd (none_is wanted e)
typed_on done before frames first (s ∷ ss) (Level d t) wanted h e = absurd (none_is wanted e)
typed_on done before frames first (s ∷ ss) (Built k ts) wanted h e = absurd (none_is wanted e)

pub are_wanted : (params : List DataType) (t : Size) (wanted : List ArgType) → wanted_of params t ≡ Some wanted → Are_wanted params wanted
are_wanted params t wanted e = typed_on [] [] [] 0 params t wanted tt e

pub ruleset levels = (level_more, level_none, no_level)

pub ruleset arrows = (arrow_more, arrow_none, no_arrow, are_wanted)
