-- Rows one after the other.
use Rattle.std.proofs.Common.{◌≡◌, ◌+◌, ◌-◌, ◌<◌, ◌≤◌, ℕ, zero, suc, List, [], ◌∷◌, ◌++◌, length, length-drop, drop, arith, refl, sym, ap, ◌∙◌, subst, append_assoc}
use Rattle.std.specs.Prelude.{true, false, cond, ◌==◌, Result, Ok, Err, IfOk, IfErr}
use Rattle.fut_scalar.specs.declared.scalar.ScalarType.{ScalarType}
use Rattle.value_text.specs.Arrays.{Array_reader, Read, and_then, behind_row, counted, first_sizes, no_row, no_rows, other_than_rows, read_at, row_and, rows_at, rows_up_to}
use Rattle.value_text.specs.Gives.{Gives, Gives_row, Refused_so}
use Rattle.value_text.specs.Gaps.{begins_with, gap_at}
use Rattle.value_text.specs.declared.reading.TextErr.{TextErr}
use Rattle.value_text.specs.declared.reading.TextErr.TheVariants as text

-- ---- refusals

pub carry : {A B : Type 0} (x : Result A TextErr) (y : Result B TextErr) → ((e : TextErr) → x ≡ Err e → y ≡ Err e) → (err : TextErr) → Refused_so x err → Refused_so y err
carry x y f text.Memory h = tt
carry x y f (text.BadText at) h = f (text.BadText at) h
carry x y f (text.WrongType at) h = f (text.WrongType at) h
carry x y f (text.OutOfRange at) h = f (text.OutOfRange at) h
carry x y f (text.Irregular at) h = f (text.Irregular at) h
carry x y f (text.TooLarge at) h = f (text.TooLarge at) h
carry x y f (text.SizeClash param have want) h = f (text.SizeClash param have want) h
carry x y f (text.Missing param) h = f (text.Missing param) h
carry x y f (text.Extra at) h = f (text.Extra at) h

pub refused_is : {A : Type 0} (x : Result A TextErr) (err : TextErr) → x ≡ Err err → Refused_so x err
refused_is x text.Memory h = tt
refused_is x (text.BadText at) h = h
refused_is x (text.WrongType at) h = h
refused_is x (text.OutOfRange at) h = h
refused_is x (text.Irregular at) h = h
refused_is x (text.TooLarge at) h = h
refused_is x (text.SizeClash param have want) h = h
refused_is x (text.Missing param) h = h
refused_is x (text.Extra at) h = h

err_on : {A B C : Type 0} (x : Result A TextErr) (f : A → Result B TextErr) (g : A → B → Result C TextErr) (e : TextErr) → and_then x f ≡ Err e → and_then x (λ a. and_then (f a) (g a)) ≡ Err e
err_on (Err e) f g d h = err_same e d h
  where
    err_same : {A B : Type 0} (e d : TextErr) → ◌≡◌ {A = Result A TextErr} (Err e) (Err d) → ◌≡◌ {A = Result B TextErr} (Err e) (Err d)
    err_same e d h = cc
err_on (Ok a) f g d h = ap (λ r. and_then r (g a)) h

pub first_err : {A B : Type 0} (x : Result A TextErr) (f : A → Result B TextErr) (e : TextErr) → x ≡ Err e → and_then x f ≡ Err e
first_err x f e h = ap (λ r. and_then r f) h

pub row_refused : (x : Result Read TextErr) (f : Read → Result (List ℕ) TextErr) (err : TextErr) → Refused_so x err → Refused_so (and_then x f) err
row_refused x f err h = carry x (and_then x f) (λ e k. first_err x f e k) err h

pub count_refused : (x : Result Read TextErr) (f : Read → Result (List ℕ) TextErr) (read : Read) (err : TextErr) → x ≡ Ok read → f read ≡ Err err → Refused_so (and_then x f) err
count_refused x f read err is h = refused_is (and_then x f) err (ap (λ r. and_then r f) is ∙ h)

-- ---- the loop

module _ (row : Array_reader) (start : ℕ) (old : List ℕ) (whole : Result Read TextErr) where
  -- what is left to read from here on is the rest of the whole
  pub record Going (n count before : ℕ) (first words bytes : List ℕ) : Type 0 where
    pub so_far : List ℕ
    pub words_behind : words ≡ old ++ so_far
    pub same : rows_up_to n row (record { count = count; sizes = first; words = so_far }) start before bytes ≡ whole

  -- behind a row
  pub record Stepped (n count before : ℕ) (first words bytes : List ℕ) : Type 0 where
    pub so_far : List ℕ
    pub words_behind : words ≡ old ++ so_far
    pub same : behind_row (rows_up_to n row) (record { count = count; sizes = first; words = so_far }) start before bytes ≡ whole

  module _ (len turn before : ℕ) (first words bytes : List ℕ) (g : Going (len - turn) turn before first words bytes) where
    module _ (more : turn < len) (blanks : ℕ) (front : List ℕ) (is_gap : blanks ≡ gap_at bytes) (is_front : front ≡ drop blanks bytes) where
      one : row_and row (rows_up_to (len - (turn + 1)) row) (record { count = turn; sizes = first; words = g.so_far }) start (before + blanks) front ≡ whole
      one =
          let n : len - turn ≡ suc (len - (turn + 1)) = omega arith in
          let here = subst (λ k. rows_up_to k row (record { count = turn; sizes = first; words = g.so_far }) start before bytes ≡ whole) n g.same in
          rw (is_front, is_gap) here

      pub one_refused : (err : TextErr) → Refused_so (and_then (row (start + (before + blanks)) front) (λ read. counted (start + (before + blanks)) turn first read.sizes)) err → Refused_so whole err
      one_refused err h =
          carry _ whole (λ e k. sym one ∙ err_on (row (start + (before + blanks)) front) (λ read. counted (start + (before + blanks)) turn first read.sizes)
          (λ read sizes. behind_row (rows_up_to (len - (turn + 1)) row) (record { count = turn + 1; sizes = sizes; words = g.so_far ++ read.words }) start (before + blanks + read.length + gap_at (drop read.length front)) (drop (gap_at (drop read.length front)) (drop read.length front))) e k) err h

      pub one_more : (n gap : ℕ) (first2 words2 tail mark : List ℕ) → Gives_row (row (start + (before + blanks)) front) (start + (before + blanks)) turn first first2 words words2 n
          → tail ≡ drop n front → gap ≡ gap_at tail → mark ≡ drop gap tail → Stepped (len - (turn + 1)) (turn + 1) (before + blanks + (n + gap)) first2 words2 mark
      one_more n gap first2 words2 tail mark r is_tail is_gap2 is_mark =
          let read = r.read in
          let next : List ℕ → Result Read TextErr = λ sizes. behind_row (rows_up_to (len - (turn + 1)) row) (record { count = turn + 1; sizes = sizes; words = g.so_far ++ read.words }) start (before + blanks + read.length + gap_at (drop read.length front)) (drop (gap_at (drop read.length front)) (drop read.length front)) in
          let opened : row_and row (rows_up_to (len - (turn + 1)) row) (record { count = turn; sizes = first; words = g.so_far }) start (before + blanks) front ≡ next first2 =
          ap (λ x. and_then x (λ read. and_then (counted (start + (before + blanks)) turn first read.sizes) (λ sizes. behind_row (rows_up_to (len - (turn + 1)) row) (record { count = turn + 1; sizes = sizes; words = g.so_far ++ read.words }) start (before + blanks + read.length + gap_at (drop read.length front)) (drop (gap_at (drop read.length front)) (drop read.length front))))) r.is
          ∙ ap (λ x. and_then x next) r.counts in
          let there : tail ≡ drop read.length front = is_tail ∙ ap (λ k. drop k front) r.long in
          let long : before + blanks + (n + gap) ≡ before + blanks + read.length + gap_at (drop read.length front) = (let a = r.long in let b = is_gap2 ∙ ap gap_at there in omega (arith, a, b)) in
          let here : mark ≡ drop (gap_at (drop read.length front)) (drop read.length front) = is_mark ∙ ap (λ k. drop k tail) is_gap2 ∙ ap (λ t. drop (gap_at t) t) there in
          record {
            so_far = g.so_far ++ read.words;
            words_behind = r.words_behind ∙ ap (λ w. w ++ read.words) g.words_behind ∙ append_assoc old g.so_far read.words;
            same = ap (λ k. behind_row (rows_up_to (len - (turn + 1)) row) (record { count = turn + 1; sizes = first2; words = g.so_far ++ read.words }) start k mark) long
                ∙ ap (λ b. behind_row (rows_up_to (len - (turn + 1)) row) (record { count = turn + 1; sizes = first2; words = g.so_far ++ read.words }) start (before + blanks + read.length + gap_at (drop read.length front)) b) here
                ∙ sym opened ∙ one;
          }

  module _ (n count before : ℕ) (first words mark : List ℕ) (s : Stepped n count before first words mark) where
    pub closed : (sizes_before sizes : List ℕ) → begins_with 93 mark ≡ true → sizes ≡ (sizes_before ++ count ∷ []) ++ first → Gives whole old words sizes_before sizes (before + 1)
    closed sizes_before sizes h e = record {
      read = record { sizes = count ∷ first; words = s.so_far; length = before + 1 };
      is = sym (s.same) ∙ ap (λ t. cond t (Ok (record { sizes = count ∷ first; words = s.so_far; length = before + 1 })) (cond (begins_with 44 mark) (rows_up_to n row (record { count = count; sizes = first; words = s.so_far }) start (before + 1) (drop 1 mark)) (Err (text.BadText (start + before))))) h;
      long = refl;
      words_behind = s.words_behind;
      sizes_behind = e ∙ append_assoc sizes_before (count ∷ []) first;
    }

    module _ (h : begins_with 93 mark ≡ false) where
      open_mark : cond (begins_with 44 mark) (rows_up_to n row (record { count = count; sizes = first; words = s.so_far }) start (before + 1) (drop 1 mark)) (Err (text.BadText (start + before))) ≡ whole
      open_mark =
          sym (ap (λ t. cond t (Ok (record { sizes = count ∷ first; words = s.so_far; length = before + 1 })) (cond (begins_with 44 mark) (rows_up_to n row (record { count = count; sizes = first; words = s.so_far }) start (before + 1) (drop 1 mark)) (Err (text.BadText (start + before))))) h)
          ∙ s.same

      pub bad_mark : begins_with 44 mark ≡ false → whole ≡ Err (text.BadText (start + before))
      bad_mark k = sym open_mark ∙ ap (λ t. cond t (rows_up_to n row (record { count = count; sizes = first; words = s.so_far }) start (before + 1) (drop 1 mark)) (Err (text.BadText (start + before)))) k

      pub goes_on : (bytes : List ℕ) → begins_with 44 mark ≡ true → bytes ≡ drop 1 mark → Going n count (before + 1) first words bytes
      goes_on bytes k e = record {
        so_far = s.so_far;
        words_behind = s.words_behind;
        same = ap (rows_up_to n row (record { count = count; sizes = first; words = s.so_far }) start (before + 1)) e
            ∙ sym (ap (λ t. cond t (rows_up_to n row (record { count = count; sizes = first; words = s.so_far }) start (before + 1) (drop 1 mark)) (Err (text.BadText (start + before)))) k)
            ∙ open_mark;
      }

-- ---- one row

given_by : (r : Result Read TextErr) (position count : ℕ) (first first2 words_before words own : List ℕ) (n : ℕ) → Gives r words_before words [] own n → counted position count first own ≡ Ok (first_sizes count first own)
    → first2 ≡ first_sizes count first own → Gives_row r position count first first2 words_before words n
given_by r position count first first2 words_before words own n g h e = record {
  read = g.read;
  is = g.is;
  counts = ap (counted position count first) (sym g.sizes_behind) ∙ h ∙ ap Ok (sym e);
  long = g.long;
  words_behind = g.words_behind;
}

pub given_first : (r : Result Read TextErr) (position count : ℕ) (first first2 words_before words own : List ℕ) (n : ℕ) → Gives r words_before words [] own n → counted position count first own ≡ Ok (first_sizes count first own)
    → count ≡ 0 → (count ≡ 0 → first ≡ []) → first2 ≡ first ++ own → Gives_row r position count first first2 words_before words n
given_first r position count first first2 words_before words own n g h z none e =
    given_by r position count first first2 words_before words own n g h (e ∙ ap (λ f. f ++ own) (none z) ∙ sym (ap (λ k. first_sizes k first own) z))

pub given_next : (r : Result Read TextErr) (position count : ℕ) (first words_before words own : List ℕ) (n : ℕ) → Gives r words_before words [] own n → counted position count first own ≡ Ok (first_sizes count first own)
    → (count == 0) ≡ false → Gives_row r position count first first words_before words n
given_next r position count first words_before words own n g h z =
    given_by r position count first first words_before words own n g h (sym (ap (λ t. cond t own first) z))

pub not_counted : (r : Result Read TextErr) (position count : ℕ) (first words_before words own : List ℕ) (n : ℕ) (err : TextErr) → Gives r words_before words [] own n → counted position count first own ≡ Err err
    → Refused_so (and_then r (λ read. counted position count first read.sizes)) err
not_counted r position count first words_before words own n err g h =
    count_refused r (λ read. counted position count first read.sizes) g.read err g.is (ap (counted position count first) (sym g.sizes_behind) ∙ h)

pub ruleset row_goes = (given_first, given_next, not_counted, row_refused)

-- ---- a value of any rank

pub at_other : (ty : ScalarType) (rank position : ℕ) (bytes : List ℕ) → 0 < rank → begins_with 91 bytes ≡ false → read_at ty rank position bytes ≡ other_than_rows ty rank position bytes
at_other ty zero position bytes z h = absurd (omega arith)
at_other ty (suc n) position bytes z h = ap (λ t. cond t (rows_at n (read_at ty n) position (drop 1 bytes)) (other_than_rows ty (suc n) position bytes)) h

pub at_none : (ty : ScalarType) (rank position : ℕ) (bytes inner : List ℕ) → 0 < rank → begins_with 91 bytes ≡ true → inner ≡ drop 1 bytes → begins_with 93 (drop (gap_at inner) inner) ≡ true
    → read_at ty rank position bytes ≡ no_rows (rank - 1) (position + 1 + gap_at inner) (gap_at inner + 2)
at_none ty zero position bytes inner z h e k = absurd (omega arith)
at_none ty (suc n) position bytes inner z h e k =
    let same : n ≡ suc n - 1 = omega arith in
    ap (λ t. cond t (rows_at n (read_at ty n) position (drop 1 bytes)) (other_than_rows ty (suc n) position bytes)) h
    ∙ ap (rows_at n (read_at ty n) position) (sym e)
    ∙ ap (λ t. cond t (no_rows n (position + 1 + gap_at inner) (gap_at inner + 2)) (rows_up_to (length inner) (read_at ty n) no_row position 1 inner)) k
    ∙ ap (λ m. no_rows m (position + 1 + gap_at inner) (gap_at inner + 2)) same

pub at_rows : (ty : ScalarType) (rank position : ℕ) (bytes inner : List ℕ) → 0 < rank → begins_with 91 bytes ≡ true → inner ≡ drop 1 bytes → begins_with 93 (drop (gap_at inner) inner) ≡ false
    → read_at ty rank position bytes ≡ rows_up_to (length inner) (read_at ty (rank - 1)) no_row position 1 inner
at_rows ty zero position bytes inner z h e k = absurd (omega arith)
at_rows ty (suc n) position bytes inner z h e k =
    let same : n ≡ suc n - 1 = omega arith in
    ap (λ t. cond t (rows_at n (read_at ty n) position (drop 1 bytes)) (other_than_rows ty (suc n) position bytes)) h
    ∙ ap (rows_at n (read_at ty n) position) (sym e)
    ∙ ap (λ t. cond t (no_rows n (position + 1 + gap_at inner) (gap_at inner + 2)) (rows_up_to (length inner) (read_at ty n) no_row position 1 inner)) k
    ∙ ap (λ m. rows_up_to (length inner) (read_at ty m) no_row position 1 inner) same

pub gives_so : (x y : Result Read TextErr) (words_before words sizes_before sizes : List ℕ) (n : ℕ) → x ≡ y → Gives y words_before words sizes_before sizes n → Gives x words_before words sizes_before sizes n
gives_so x y words_before words sizes_before sizes n e g = record { read = g.read; is = e ∙ g.is; long = g.long; words_behind = g.words_behind; sizes_behind = g.sizes_behind }

pub refused_so : (x y : Result Read TextErr) (err : TextErr) → x ≡ y → Refused_so y err → Refused_so x err
refused_so x y err e h = carry y x (λ d k. e ∙ k) err h

pub one_longer : (c : ℕ) (bytes inner : List ℕ) → begins_with c bytes ≡ true → inner ≡ drop 1 bytes → length bytes ≡ length inner + 1
one_longer c [] inner h e = absurd cc
one_longer c (b ∷ bs) inner h e = let l = ap length e in omega (arith, l)

pub if_refused : (r : Result ℕ TextErr) (x y : Result Read TextErr) → x ≡ y → IfErr r (Refused_so y) → IfErr r (Refused_so x)
if_refused (Ok n) x y e h = h
if_refused (Err err) x y e h = refused_so x y err e h

pub if_gives : (r : Result ℕ TextErr) (x y : Result Read TextErr) (words_before words sizes_before sizes : List ℕ) → x ≡ y
    → IfOk r (λ n. Gives y words_before words sizes_before sizes n) → IfOk r (λ n. Gives x words_before words sizes_before sizes n)
if_gives (Ok n) x y words_before words sizes_before sizes e h = gives_so x y words_before words sizes_before sizes n e h
if_gives (Err err) x y words_before words sizes_before sizes e h = h

-- ---- how far the rows are read

pub row_within : (before blanks n more total : ℕ) (bytes front tail mark next : List ℕ) → before + length bytes ≡ total → blanks ≤ length bytes → front ≡ drop blanks bytes → n ≤ length front → tail ≡ drop n front
    → more ≤ length tail → mark ≡ drop more tail → begins_with 44 mark ≡ true → next ≡ drop 1 mark → before + blanks + (n + more) + 1 + length next ≡ total
row_within before blanks n more total bytes front tail mark next whole p is_front q is_tail r is_mark h is_next =
    let a : length front ≡ length bytes - blanks = ap length is_front ∙ length-drop blanks bytes in
    let b : length tail ≡ length front - n = ap length is_tail ∙ length-drop n front in
    let c : length mark ≡ length tail - more = ap length is_mark ∙ length-drop more tail in
    let d : length mark ≡ length next + 1 = one_longer 44 mark next h is_next in
    omega arith
