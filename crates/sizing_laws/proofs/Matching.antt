-- What an application finds while it matches: by two numberings the same sizes, and sized types that are alike.
use Rattle.std.proofs.Common.{◌≡◌, ℕ, suc, ◌+◌, Bool, true, false, not, ◌&&◌, cond, nat_eq, nat_lt, Ok, Err, refl, sym, ap, ◌∙◌, subst}
use Rattle.fut_types.specs.Types.{Ty}
use Rattle.sized_types.specs.Sizes.{Free, Const, Name, Own, Unknown, Slot, Dim, At, Bound, Variable, Size, Hole, Open, Level, Built, Fun, Sizes, no_size, size_and, is_free, replaced, renaming, has}
use Rattle.fut_sizes.specs.Levels.{levels_within}
use Rattle.fut_sizes.specs.Agreeing.{Refusal, Mismatch, Irregular, Answer, then_do, agree}
use Rattle.fut_sizes.specs.Matching.{Found, nothing_found, put, size_found, is_open, filled, all_filled, type_found, counted, made_at, found_size, found_dim, read, all_read, Opened, inside, dim_in, in_opened, Way, turned, to_result, is_unknown, linked, meet_size, meet_dim, meet_dims, any_size, with_any_sizes, open_takes, variable_compared, compared, all_compared, meet_variable, wanted_frame, found_frame, is_irregular, meet, all_meet}
use Rattle.sizing_laws.specs.Renumbering.{renumbered_head, renumbered_type, renumbered, all_renumbered}
use Rattle.sizing_laws.proofs.Agreeing.{levels_within_same, replaced_to, has_same, agree_same}
use Rattle.sizing_laws.proofs.Steps.{AnswerR, gives, refuses, then_are, then_same, cond_are}

-- ---- what has been found

pub data FoundR (number : ℕ → ℕ) : Found → Found → Type 0 where
  alike : {size : ℕ → Free} {type other : ℕ → Variable → Ty → Size} {next : ℕ} {maker : ℕ → ℕ} → ((n : ℕ) (v : Variable) (u : Ty) → other n v (renumbered_type number u) ≡ renumbered number (type n v u))
      → FoundR number (record { size = size; type = type; next = next; maker = maker }) (record { size = size; type = other; next = next; maker = maker })

cond_to : {A : Type 0} (f : A → A) (b : Bool) (x y : A) → cond b (f x) (f y) ≡ f (cond b x y)
cond_to f true x y = refl
cond_to f false x y = refl

module _ (number : ℕ → ℕ) where
  abbrev to : Size → Size
  to = renumbered number

  abbrev tos : Sizes → Sizes
  tos = all_renumbered number

  pub nothing_alike : FoundR number nothing_found nothing_found
  nothing_alike = alike (λ n v u. refl)

  pub size_alike : (i : ℕ) (d : Free) {σ τ : Found} → FoundR number σ τ → FoundR number (size_found i d σ) (size_found i d τ)
  size_alike i d (alike {size} {type} h) = alike (λ n v u. ap (replaced (renaming (put i d)) 0) (h n v u) ∙ replaced_to number (renaming (put i d)) 0 (type n v u))

  mutual
    unfolding filled

    filled_to : (n : ℕ) (v : Variable) (x t : Size) → filled n v (to x) (to t) ≡ to (filled n v x t)
    filled_to n v x (Hole w) = refl
    filled_to n v x (Open m w t) = cond_to to (is_open n v m w) x (Open m w t)
    filled_to n v x (Level d t) = ap (Level d) (filled_to n v x t)
    filled_to n v x (Built h ts) = ap (Built (renumbered_head number h)) (all_filled_to n v x ts)
    filled_to n v x (Fun k p r) = λ i. Fun k (filled_to n v x p i) (filled_to n v x r i)

    all_filled_to : (n : ℕ) (v : Variable) (x : Size) (ts : Sizes) → all_filled n v (to x) (tos ts) ≡ tos (all_filled n v x ts)
    all_filled_to n v x no_size = refl
    all_filled_to n v x (size_and t ts) = λ i. size_and (filled_to n v x t i) (all_filled_to n v x ts i)

  pub type_alike : (n : ℕ) (v : Variable) (x y : Size) → y ≡ to x → {σ τ : Found} → FoundR number σ τ → FoundR number (type_found n v x σ) (type_found n v y τ)
  type_alike n v x y e (alike {size} {type} h) = alike (λ m w t. (λ i. filled n v (e i) (h m w t i)) ∙ filled_to n v x (type m w t))

  pub counted_alike : (i : ℕ) {σ τ : Found} → FoundR number σ τ → FoundR number (counted i σ) (counted i τ)
  counted_alike i (alike h) = alike h

  pub made_alike : (n : ℕ) {σ τ : Found} → FoundR number σ τ → FoundR number (made_at n σ) (made_at n τ)
  made_alike n (alike h) = alike h

  pub size_of_same : {σ τ : Found} → FoundR number σ τ → τ.size ≡ σ.size
  size_of_same (alike h) = refl

  pub next_same : {σ τ : Found} → FoundR number σ τ → τ.next ≡ σ.next
  next_same (alike h) = refl

  pub maker_same : {σ τ : Found} → FoundR number σ τ → τ.maker ≡ σ.maker
  maker_same (alike h) = refl

  module _ (size : ℕ → Free) (type other : ℕ → Variable → Ty → Size) (next : ℕ) (maker : ℕ → ℕ) (h : (n : ℕ) (v : Variable) (u : Ty) → other n v (renumbered_type number u) ≡ to (type n v u)) where
    abbrev one_found : Found
    one_found = record { size = size; type = type; next = next; maker = maker }

    abbrev other_found : Found
    other_found = record { size = size; type = other; next = next; maker = maker }

    mutual
      unfolding read

      both_read : (t : Size) → read other_found (to t) ≡ to (read one_found t)
      both_read (Hole v) = refl
      both_read (Open n v u) = h n v u
      both_read (Level d t) = ap (Level (found_dim one_found 0 d)) (both_read t)
      both_read (Built g ts) = ap (Built (renumbered_head number g)) (all_both_read ts)
      both_read (Fun k p r) = λ i. Fun k (both_read p i) (both_read r i)

      all_both_read : (ts : Sizes) → all_read other_found (tos ts) ≡ tos (all_read one_found ts)
      all_both_read no_size = refl
      all_both_read (size_and t ts) = λ i. size_and (both_read t i) (all_both_read ts i)

  pub read_to : {σ τ : Found} → FoundR number σ τ → (t : Size) → read τ (to t) ≡ to (read σ t)
  read_to (alike {size} {type} {other} {next} {maker} h) t = both_read size type other next maker h t

  pub in_opened_to : (φ : Opened) (t : Size) → in_opened φ (to t) ≡ to (in_opened φ t)
  in_opened_to φ t = replaced_to number (dim_in φ) 0 t

  pub read_opened_to : {σ τ : Found} → FoundR number σ τ → (φ : Opened) (t : Size) → read τ (in_opened φ (to t)) ≡ to (read σ (in_opened φ t))
  read_opened_to {σ} {τ} h φ t = ap (read τ) (in_opened_to φ t) ∙ read_to h (in_opened φ t)

  -- ---- sizes meet

  FoundsR : Answer Found → Answer Found → Type 0
  FoundsR = AnswerR (FoundR number)

  ok_or : (b : Bool) (e : Refusal) {σ τ : Found} → FoundR number σ τ → AnswerR (FoundR number) (cond b (Ok σ) (Err e)) (cond b (Ok τ) (Err e))
  ok_or true e h = gives h
  ok_or false e h = refuses

  or_ok : (b : Bool) (e : Refusal) {σ τ : Found} → FoundR number σ τ → AnswerR (FoundR number) (cond b (Err e) (Ok σ)) (cond b (Err e) (Ok τ))
  or_ok true e h = refuses
  or_ok false e h = gives h

  linked_alike : (i j : ℕ) {σ τ : Found} → FoundR number σ τ → FoundR number (linked i j σ) (linked i j τ)
  linked_alike i j {σ} {τ} h = cond_are (FoundR number) (nat_eq i j) (nat_eq i j) refl h (cond_are (FoundR number) (nat_lt i j) (nat_lt i j) refl (size_alike j (Slot i) h) (size_alike i (Slot j) h))

  meet_size_alike : (w : Way) (at : ℕ) (d e : Free) {σ τ : Found} → FoundR number σ τ → AnswerR (FoundR number) (meet_size w at d e σ) (meet_size w at d e τ)
  meet_size_alike w at (Slot i) (Slot j) h = gives (linked_alike i j h)
  meet_size_alike w at (Slot i) (Const x) h = or_ok (w.in_result && is_unknown (At (Const x))) (Irregular at) (size_alike i (Const x) h)
  meet_size_alike w at (Slot i) (Name x) h = or_ok (w.in_result && is_unknown (At (Name x))) (Irregular at) (size_alike i (Name x) h)
  meet_size_alike w at (Slot i) (Own m j) h = or_ok (w.in_result && is_unknown (At (Own m j))) (Irregular at) (size_alike i (Own m j) h)
  meet_size_alike w at (Slot i) (Unknown m j) h = or_ok (w.in_result && is_unknown (At (Unknown m j))) (Irregular at) (size_alike i (Unknown m j) h)
  meet_size_alike w at (Const c) (Slot j) h = gives (size_alike j (Const c) h)
  meet_size_alike w at (Name b) (Slot j) h = gives (size_alike j (Name b) h)
  meet_size_alike w at (Own n i) (Slot j) h = gives (size_alike j (Own n i) h)
  meet_size_alike w at (Unknown n i) (Slot j) h = gives (size_alike j (Unknown n i) h)
  meet_size_alike w at (Const c) (Const x) h = ok_or (is_free (Const c) (Const x)) (Mismatch at (At (Const c)) (At (Const x))) h
  meet_size_alike w at (Const c) (Name x) h = ok_or (is_free (Const c) (Name x)) (Mismatch at (At (Const c)) (At (Name x))) h
  meet_size_alike w at (Const c) (Own m j) h = ok_or (is_free (Const c) (Own m j)) (Mismatch at (At (Const c)) (At (Own m j))) h
  meet_size_alike w at (Const c) (Unknown m j) h = ok_or (is_free (Const c) (Unknown m j)) (Mismatch at (At (Const c)) (At (Unknown m j))) h
  meet_size_alike w at (Name b) (Const x) h = ok_or (is_free (Name b) (Const x)) (Mismatch at (At (Name b)) (At (Const x))) h
  meet_size_alike w at (Name b) (Name x) h = ok_or (is_free (Name b) (Name x)) (Mismatch at (At (Name b)) (At (Name x))) h
  meet_size_alike w at (Name b) (Own m j) h = ok_or (is_free (Name b) (Own m j)) (Mismatch at (At (Name b)) (At (Own m j))) h
  meet_size_alike w at (Name b) (Unknown m j) h = ok_or (is_free (Name b) (Unknown m j)) (Mismatch at (At (Name b)) (At (Unknown m j))) h
  meet_size_alike w at (Own n i) (Const x) h = ok_or (is_free (Own n i) (Const x)) (Mismatch at (At (Own n i)) (At (Const x))) h
  meet_size_alike w at (Own n i) (Name x) h = ok_or (is_free (Own n i) (Name x)) (Mismatch at (At (Own n i)) (At (Name x))) h
  meet_size_alike w at (Own n i) (Own m j) h = ok_or (is_free (Own n i) (Own m j)) (Mismatch at (At (Own n i)) (At (Own m j))) h
  meet_size_alike w at (Own n i) (Unknown m j) h = ok_or (is_free (Own n i) (Unknown m j)) (Mismatch at (At (Own n i)) (At (Unknown m j))) h
  meet_size_alike w at (Unknown n i) (Const x) h = ok_or (is_free (Unknown n i) (Const x)) (Mismatch at (At (Unknown n i)) (At (Const x))) h
  meet_size_alike w at (Unknown n i) (Name x) h = ok_or (is_free (Unknown n i) (Name x)) (Mismatch at (At (Unknown n i)) (At (Name x))) h
  meet_size_alike w at (Unknown n i) (Own m j) h = ok_or (is_free (Unknown n i) (Own m j)) (Mismatch at (At (Unknown n i)) (At (Own m j))) h
  meet_size_alike w at (Unknown n i) (Unknown m j) h = ok_or (is_free (Unknown n i) (Unknown m j)) (Mismatch at (At (Unknown n i)) (At (Unknown m j))) h

  meet_dim_alike : (w : Way) (at : ℕ) (d e : Dim) {σ τ : Found} → FoundR number σ τ → AnswerR (FoundR number) (meet_dim w at d e σ) (meet_dim w at d e τ)
  meet_dim_alike w at (At d) (At e) (alike {size} {type} {other} {next} {maker} h) = meet_size_alike w at (found_size (record { size = size; type = type; next = next; maker = maker }) d) (found_size (record { size = size; type = type; next = next; maker = maker }) e) (alike h)
  meet_dim_alike w at (At d) (Bound k i) h = gives h
  meet_dim_alike w at (Bound k i) (At e) h = gives h
  meet_dim_alike w at (Bound k i) (Bound j l) h = gives h

  meet_dims_alike : (w : Way) (at : ℕ) (d e : Dim) {σ τ : Found} → FoundR number σ τ → AnswerR (FoundR number) (meet_dims w at d e σ) (meet_dims w at d e τ)
  meet_dims_alike w at d e h = cond_are (AnswerR (FoundR number)) w.left_wanted w.left_wanted refl (meet_dim_alike w at d e h) (meet_dim_alike w at e d h)

  -- ---- open variables

  any_sizes_to : {σ τ : Found} → FoundR number σ τ → (t : Size) → with_any_sizes τ (to t) ≡ to (with_any_sizes σ t)
  any_sizes_to (alike {size} {type} {other} {next} {maker} h) t = ap (replaced (renaming (found_size (record { size = size; type = type; next = next; maker = maker }))) 0) (replaced_to number any_size 0 t)
      ∙ replaced_to number (renaming (found_size (record { size = size; type = type; next = next; maker = maker }))) 0 (replaced any_size 0 t)

  takes_alike : (wanted : Bool) (w : Way) (at n : ℕ) (v : Variable) (t : Size) {σ τ : Found} → FoundR number σ τ
      → AnswerR (FoundR number) (cond (wanted && (w.in_result && has is_unknown t)) (Err (Irregular at)) (Ok (type_found n v (with_any_sizes σ t) σ))) (cond (wanted && (w.in_result && has is_unknown (to t))) (Err (Irregular at)) (Ok (type_found n v (with_any_sizes τ (to t)) τ)))
  takes_alike wanted w at n v t {σ} {τ} h = cond_are (AnswerR (FoundR number)) (wanted && (w.in_result && has is_unknown t)) (wanted && (w.in_result && has is_unknown (to t))) (ap (λ b. wanted && (w.in_result && b)) (has_same number is_unknown t)) refuses (gives (type_alike n v (with_any_sizes σ t) (with_any_sizes τ (to t)) (any_sizes_to h t) h))

  open_takes_alike : (wanted : Bool) (w : Way) (at n : ℕ) (v : Variable) (t : Size) {σ τ : Found} → FoundR number σ τ → AnswerR (FoundR number) (open_takes wanted w at n v t σ) (open_takes wanted w at n v (to t) τ)
  open_takes_alike wanted w at n v (Open m x u) h = cond_are (AnswerR (FoundR number)) (is_open n v m x) (is_open n v m x) refl (gives h) (gives (type_alike n v (Open m x u) (to (Open m x u)) refl h))
  open_takes_alike wanted w at n v (Hole x) h = takes_alike wanted w at n v (Hole x) h
  open_takes_alike wanted w at n v (Level d t) h = takes_alike wanted w at n v (Level d t) h
  open_takes_alike wanted w at n v (Built g ts) h = takes_alike wanted w at n v (Built g ts) h
  open_takes_alike wanted w at n v (Fun k p r) h = takes_alike wanted w at n v (Fun k p r) h

  agree_alike : (at : ℕ) (t u : Size) {σ τ : Found} → FoundR number σ τ → AnswerR (FoundR number) (then_do (agree at t u) (λ z. Ok σ)) (then_do (agree at (to t) (to u)) (λ z. Ok τ))
  agree_alike at t u h = then_same _ _ (agree_same number at t u) (λ z. gives h)

  compared_as : (wanted : Bool) (w : Way) (at : ℕ) (taken t : Size) {σ τ : Found} → FoundR number σ τ → AnswerR (FoundR number) (variable_compared wanted w at taken t σ) (variable_compared wanted w at (to taken) (to t) τ)
  compared_as wanted w at (Open n v u) t h = open_takes_alike wanted w at n v t h
  compared_as wanted w at (Hole x) t h = agree_alike at (Hole x) t h
  compared_as wanted w at (Level d u) t h = agree_alike at (Level d u) t h
  compared_as wanted w at (Built g us) t h = agree_alike at (Built g us) t h
  compared_as wanted w at (Fun k p r) t h = agree_alike at (Fun k p r) t h

  -- what a variable has taken, and what is read
  variable_alike : (wanted : Bool) (w : Way) (at : ℕ) (taken t taken' t' : Size) → taken' ≡ to taken → t' ≡ to t → {σ τ : Found} → FoundR number σ τ → AnswerR (FoundR number) (variable_compared wanted w at taken t σ) (variable_compared wanted w at taken' t' τ)
  variable_alike wanted w at taken t taken' t' e g {σ} {τ} h = subst (λ (x : Size × Size). AnswerR (FoundR number) (variable_compared wanted w at taken t σ) (variable_compared wanted w at x.0 x.1 τ)) (λ i. (sym e i, sym g i)) (compared_as wanted w at taken t h)

  pub taken_as : {σ τ : Found} → FoundR number σ τ → (n : ℕ) (v : Variable) (x : Ty) → τ.type n v (renumbered_type number x) ≡ to (σ.type n v x)
  taken_as (alike h) = h

  mutual
    unfolding compared

    pub compared_alike : (w : Way) (at : ℕ) (t u : Size) {σ τ : Found} → FoundR number σ τ → AnswerR (FoundR number) (compared w at t u σ) (compared w at (to t) (to u) τ)
    compared_alike w at (Level d t) (Level e u) h = then_are _ _ (meet_dims_alike w at d e h) (λ a b g. compared_alike w at t u g)
    compared_alike w at (Built y ts) (Built z us) h = all_compared_alike w at ts us h
    compared_alike w at (Fun k p r) (Fun l q s) h = agree_alike at (Fun k p r) (Fun l q s) h
    compared_alike w at (Open n v x) (Hole z) {σ} {τ} f = variable_alike w.left_wanted w at (σ.type n v x) (read σ (Hole z)) (τ.type n v (renumbered_type number x)) (read τ (to (Hole z))) (taken_as f n v x) (read_to f (Hole z)) f
    compared_alike w at (Open n v x) (Open m y o) {σ} {τ} f = variable_alike w.left_wanted w at (σ.type n v x) (read σ (Open m y o)) (τ.type n v (renumbered_type number x)) (read τ (to (Open m y o))) (taken_as f n v x) (read_to f (Open m y o)) f
    compared_alike w at (Open n v x) (Level e u) {σ} {τ} f = variable_alike w.left_wanted w at (σ.type n v x) (read σ (Level e u)) (τ.type n v (renumbered_type number x)) (read τ (to (Level e u))) (taken_as f n v x) (read_to f (Level e u)) f
    compared_alike w at (Open n v x) (Built g us) {σ} {τ} f = variable_alike w.left_wanted w at (σ.type n v x) (read σ (Built g us)) (τ.type n v (renumbered_type number x)) (read τ (to (Built g us))) (taken_as f n v x) (read_to f (Built g us)) f
    compared_alike w at (Open n v x) (Fun l q s) {σ} {τ} f = variable_alike w.left_wanted w at (σ.type n v x) (read σ (Fun l q s)) (τ.type n v (renumbered_type number x)) (read τ (to (Fun l q s))) (taken_as f n v x) (read_to f (Fun l q s)) f
    compared_alike w at (Hole v) (Open m y x) {σ} {τ} f = variable_alike (not w.left_wanted) w at (σ.type m y x) (read σ (Hole v)) (τ.type m y (renumbered_type number x)) (read τ (to (Hole v))) (taken_as f m y x) (read_to f (Hole v)) f
    compared_alike w at (Level d t) (Open m y x) {σ} {τ} f = variable_alike (not w.left_wanted) w at (σ.type m y x) (read σ (Level d t)) (τ.type m y (renumbered_type number x)) (read τ (to (Level d t))) (taken_as f m y x) (read_to f (Level d t)) f
    compared_alike w at (Built h ts) (Open m y x) {σ} {τ} f = variable_alike (not w.left_wanted) w at (σ.type m y x) (read σ (Built h ts)) (τ.type m y (renumbered_type number x)) (read τ (to (Built h ts))) (taken_as f m y x) (read_to f (Built h ts)) f
    compared_alike w at (Fun k p r) (Open m y x) {σ} {τ} f = variable_alike (not w.left_wanted) w at (σ.type m y x) (read σ (Fun k p r)) (τ.type m y (renumbered_type number x)) (read τ (to (Fun k p r))) (taken_as f m y x) (read_to f (Fun k p r)) f
    compared_alike w at (Hole v) (Hole z) f = gives f
    compared_alike w at (Hole v) (Level e u) f = gives f
    compared_alike w at (Hole v) (Built g us) f = gives f
    compared_alike w at (Hole v) (Fun l q s) f = gives f
    compared_alike w at (Level d t) (Hole z) f = gives f
    compared_alike w at (Level d t) (Built g us) f = gives f
    compared_alike w at (Level d t) (Fun l q s) f = gives f
    compared_alike w at (Built h ts) (Hole z) f = gives f
    compared_alike w at (Built h ts) (Level e u) f = gives f
    compared_alike w at (Built h ts) (Fun l q s) f = gives f
    compared_alike w at (Fun k p r) (Hole z) f = gives f
    compared_alike w at (Fun k p r) (Level e u) f = gives f
    compared_alike w at (Fun k p r) (Built g us) f = gives f

    all_compared_alike : (w : Way) (at : ℕ) (ts us : Sizes) {σ τ : Found} → FoundR number σ τ → AnswerR (FoundR number) (all_compared w at ts us σ) (all_compared w at (tos ts) (tos us) τ)
    all_compared_alike w at (size_and t ts) (size_and u us) h = then_are _ _ (compared_alike w at t u h) (λ a b g. all_compared_alike w at ts us g)
    all_compared_alike w at (size_and t ts) no_size h = gives h
    all_compared_alike w at no_size (size_and u us) h = gives h
    all_compared_alike w at no_size no_size h = gives h

  met_as : (wanted : Bool) (w : Way) (at : ℕ) (taken t : Size) {σ τ : Found} → FoundR number σ τ → AnswerR (FoundR number) (meet_variable wanted w at taken t σ) (meet_variable wanted w at (to taken) (to t) τ)
  met_as wanted w at (Open n v u) t h = open_takes_alike wanted w at n v t h
  met_as wanted w at (Hole x) t h = compared_alike _ at (Hole x) t h
  met_as wanted w at (Level d u) t h = compared_alike _ at (Level d u) t h
  met_as wanted w at (Built g us) t h = compared_alike _ at (Built g us) t h
  met_as wanted w at (Fun k p r) t h = compared_alike _ at (Fun k p r) t h

  met_alike : (wanted : Bool) (w : Way) (at : ℕ) (taken t taken' t' : Size) → taken' ≡ to taken → t' ≡ to t → {σ τ : Found} → FoundR number σ τ → AnswerR (FoundR number) (meet_variable wanted w at taken t σ) (meet_variable wanted w at taken' t' τ)
  met_alike wanted w at taken t taken' t' e g {σ} {τ} h = subst (λ (x : Size × Size). AnswerR (FoundR number) (meet_variable wanted w at taken t σ) (meet_variable wanted w at x.0 x.1 τ)) (λ i. (sym e i, sym g i)) (met_as wanted w at taken t h)

  -- ---- functions

  abbrev left_of : Way → ℕ → ℕ → ℕ → ℕ → ℕ → ℕ → Dim
  left_of w lo next k l many = cond w.left_wanted (wanted_frame lo next k) (found_frame lo (next + suc l + many) (next + l) k)

  abbrev right_of : Way → ℕ → ℕ → ℕ → ℕ → ℕ → ℕ → Dim
  right_of w lo next k l many = cond w.left_wanted (found_frame lo (next + suc k + many) (next + k) l) (wanted_frame lo next l)

  irregular_same : (w : Way) (r s r' s' : Size) → r' ≡ to r → s' ≡ to s → is_irregular w r' s' ≡ is_irregular w r s
  irregular_same w r s r' s' e g = (λ i. is_irregular w (e i) (g i)) ∙ ap (λ b. w.regular && b) (ap (has is_unknown) (cond_to to w.left_wanted s r) ∙ has_same number is_unknown (cond w.left_wanted s r))

  module _ (lo : ℕ) where
    -- two function types in frames that know how many levels their results have
    abbrev functions_meet : Way → ℕ → Opened → Opened → ℕ → Size → Size → ℕ → Size → Size → Found → ℕ → ℕ → Answer Found
    functions_meet w at φ ψ k p r l q s σ rs ss =
        then_do (meet lo (turned w) at (inside (left_of w lo σ.next k l ss) φ) p (inside (right_of w lo σ.next k l rs) ψ) q (counted (suc k + rs + (suc l + ss)) σ))
        (λ found. cond (is_irregular w (read found (in_opened (inside (left_of w lo σ.next k l ss) φ) r)) (read found (in_opened (inside (right_of w lo σ.next k l rs) ψ) s))) (Err (Irregular at))
        (meet lo (to_result w) at (inside (left_of w lo σ.next k l ss) φ) r (inside (right_of w lo σ.next k l rs) ψ) s found))

    mutual
      unfolding meet

      pub meet_alike : (w : Way) (at : ℕ) (φ : Opened) (t : Size) (ψ : Opened) (u : Size) {σ τ : Found} → FoundR number σ τ → AnswerR (FoundR number) (meet lo w at φ t ψ u σ) (meet lo w at φ (to t) ψ (to u) τ)
      meet_alike w at φ (Level d t) ψ (Level e u) h = then_are _ _ (meet_dims_alike w at (dim_in φ 0 d) (dim_in ψ 0 e) h) (λ a b g. meet_alike w at φ t ψ u g)
      meet_alike w at φ (Built y ts) ψ (Built z us) h = all_meet_alike w at φ ts ψ us h
      meet_alike w at φ (Fun k p r) ψ (Fun l q s) (alike {size} {type} {other} {next} {maker} h) =
          subst (λ (x : ℕ × ℕ). AnswerR (FoundR number) (functions_meet w at φ ψ k p r l q s (record { size = size; type = type; next = next; maker = maker }) (levels_within r) (levels_within s)) (functions_meet w at φ ψ k (to p) (to r) l (to q) (to s) (record { size = size; type = other; next = next; maker = maker }) x.0 x.1))
          (λ i. (sym (levels_within_same number r) i, sym (levels_within_same number s) i))
          (then_are _ _ (meet_alike (turned w) at (inside (left_of w lo next k l (levels_within s)) φ) p (inside (right_of w lo next k l (levels_within r)) ψ) q (counted_alike (suc k + levels_within r + (suc l + levels_within s)) (alike h)))
          (λ a b g. cond_are (AnswerR (FoundR number)) _ _ (irregular_same w (read a (in_opened (inside (left_of w lo next k l (levels_within s)) φ) r)) (read a (in_opened (inside (right_of w lo next k l (levels_within r)) ψ) s)) _ _ (read_opened_to g (inside (left_of w lo next k l (levels_within s)) φ) r) (read_opened_to g (inside (right_of w lo next k l (levels_within r)) ψ) s)) refuses
          (meet_alike (to_result w) at (inside (left_of w lo next k l (levels_within s)) φ) r (inside (right_of w lo next k l (levels_within r)) ψ) s g)))
      meet_alike w at φ (Open n v x) ψ (Hole z) {σ} {τ} f = met_alike w.left_wanted w at (σ.type n v x) (read σ (in_opened ψ (Hole z))) (τ.type n v (renumbered_type number x)) (read τ (in_opened ψ (to (Hole z)))) (taken_as f n v x) (read_opened_to f ψ (Hole z)) f
      meet_alike w at φ (Open n v x) ψ (Open m y o) {σ} {τ} f = met_alike w.left_wanted w at (σ.type n v x) (read σ (in_opened ψ (Open m y o))) (τ.type n v (renumbered_type number x)) (read τ (in_opened ψ (to (Open m y o)))) (taken_as f n v x) (read_opened_to f ψ (Open m y o)) f
      meet_alike w at φ (Open n v x) ψ (Level e u) {σ} {τ} f = met_alike w.left_wanted w at (σ.type n v x) (read σ (in_opened ψ (Level e u))) (τ.type n v (renumbered_type number x)) (read τ (in_opened ψ (to (Level e u)))) (taken_as f n v x) (read_opened_to f ψ (Level e u)) f
      meet_alike w at φ (Open n v x) ψ (Built g us) {σ} {τ} f = met_alike w.left_wanted w at (σ.type n v x) (read σ (in_opened ψ (Built g us))) (τ.type n v (renumbered_type number x)) (read τ (in_opened ψ (to (Built g us)))) (taken_as f n v x) (read_opened_to f ψ (Built g us)) f
      meet_alike w at φ (Open n v x) ψ (Fun l q s) {σ} {τ} f = met_alike w.left_wanted w at (σ.type n v x) (read σ (in_opened ψ (Fun l q s))) (τ.type n v (renumbered_type number x)) (read τ (in_opened ψ (to (Fun l q s)))) (taken_as f n v x) (read_opened_to f ψ (Fun l q s)) f
      meet_alike w at φ (Hole v) ψ (Open m y x) {σ} {τ} f = met_alike (not w.left_wanted) w at (σ.type m y x) (read σ (in_opened φ (Hole v))) (τ.type m y (renumbered_type number x)) (read τ (in_opened φ (to (Hole v)))) (taken_as f m y x) (read_opened_to f φ (Hole v)) f
      meet_alike w at φ (Level d t) ψ (Open m y x) {σ} {τ} f = met_alike (not w.left_wanted) w at (σ.type m y x) (read σ (in_opened φ (Level d t))) (τ.type m y (renumbered_type number x)) (read τ (in_opened φ (to (Level d t)))) (taken_as f m y x) (read_opened_to f φ (Level d t)) f
      meet_alike w at φ (Built h ts) ψ (Open m y x) {σ} {τ} f = met_alike (not w.left_wanted) w at (σ.type m y x) (read σ (in_opened φ (Built h ts))) (τ.type m y (renumbered_type number x)) (read τ (in_opened φ (to (Built h ts)))) (taken_as f m y x) (read_opened_to f φ (Built h ts)) f
      meet_alike w at φ (Fun k p r) ψ (Open m y x) {σ} {τ} f = met_alike (not w.left_wanted) w at (σ.type m y x) (read σ (in_opened φ (Fun k p r))) (τ.type m y (renumbered_type number x)) (read τ (in_opened φ (to (Fun k p r)))) (taken_as f m y x) (read_opened_to f φ (Fun k p r)) f
      meet_alike w at φ (Hole v) ψ (Hole z) f = gives f
      meet_alike w at φ (Hole v) ψ (Level e u) f = gives f
      meet_alike w at φ (Hole v) ψ (Built g us) f = gives f
      meet_alike w at φ (Hole v) ψ (Fun l q s) f = gives f
      meet_alike w at φ (Level d t) ψ (Hole z) f = gives f
      meet_alike w at φ (Level d t) ψ (Built g us) f = gives f
      meet_alike w at φ (Level d t) ψ (Fun l q s) f = gives f
      meet_alike w at φ (Built h ts) ψ (Hole z) f = gives f
      meet_alike w at φ (Built h ts) ψ (Level e u) f = gives f
      meet_alike w at φ (Built h ts) ψ (Fun l q s) f = gives f
      meet_alike w at φ (Fun k p r) ψ (Hole z) f = gives f
      meet_alike w at φ (Fun k p r) ψ (Level e u) f = gives f
      meet_alike w at φ (Fun k p r) ψ (Built g us) f = gives f

      all_meet_alike : (w : Way) (at : ℕ) (φ : Opened) (ts : Sizes) (ψ : Opened) (us : Sizes) {σ τ : Found} → FoundR number σ τ → AnswerR (FoundR number) (all_meet lo w at φ ts ψ us σ) (all_meet lo w at φ (tos ts) ψ (tos us) τ)
      all_meet_alike w at φ (size_and t ts) ψ (size_and u us) h = then_are _ _ (meet_alike w at φ t ψ u h) (λ a b g. all_meet_alike w at φ ts ψ us g)
      all_meet_alike w at φ (size_and t ts) ψ no_size h = gives h
      all_meet_alike w at φ no_size ψ (size_and u us) h = gives h
      all_meet_alike w at φ no_size ψ no_size h = gives h
