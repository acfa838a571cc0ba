-- The table of names: what was noted is taken back.
use Rattle.std.proofs.Common.{◌≡◌, ◌≢◌, ℕ, zero, suc, ◌+◌, ◌≤◌, ◌<◌, List, [], ◌∷◌, ◌++◌, length, refl, sym, ◌∙◌, ap, subst, arith, length-append}
use Rattle.std.proofs.Math.Seq.{set_out}
use Rattle.std.proofs.Math.ListN.{length-set}
use Rattle.std.proofs.lemmas.List.{get_or-set_same, get_or-set_other}
use Rattle.type_scopes.specs.declared.names.Known.{Known}
use Rattle.type_scopes.specs.declared.names.Known.TheVariants as known
use Rattle.type_scopes.specs.declared.names.Past.{Past}
use Rattle.type_scopes.specs.declared.Inference.{Inference}
use Rattle.type_scopes.specs.Table.{known_at, with_known, undone}

pub set_none : (names : List Known) (b : ℕ) (k : Known) → length names ≤ b → with_known names b k ≡ names
unfolding with_known
set_none names b k h = set_out names b k h

pub known_same : (names : List Known) (b : ℕ) (k : Known) → b < length names → known_at (with_known names b k) b ≡ k
unfolding known_at with_known
known_same names b k h = get_or-set_same names b k known.Nothing h

pub known_other : (names : List Known) (b j : ℕ) (k : Known) → j ≢ b → known_at (with_known names b k) j ≡ known_at names j
unfolding known_at with_known
known_other names b j k h = get_or-set_other names b j k known.Nothing h

pub long_with : (names : List Known) (b : ℕ) (k : Known) → length (with_known names b k) ≡ length names
unfolding with_known
long_with names b k = length-set names b k

-- what was noted last is taken back first
pub undone_last : (ps : List Past) (p : Past) (names : List Known) → undone (ps ++ p ∷ []) names ≡ undone ps (with_known names p.name p.known)
unfolding undone
undone_last [] p names = refl
undone_last (q ∷ ps) p names = ap (λ ns. with_known ns q.name q.known) (undone_last ps p names)

pub undone_none : (names : List Known) → undone [] names ≡ names
unfolding undone
undone_none names = refl

-- the last of two rows is that of the second, where it has any
split_last : (before left rest : List Past) (p : Past) → before ++ left ≡ rest ++ p ∷ [] → length before < length (before ++ left) → (front : List Past) × (left ≡ front ++ p ∷ []) × (rest ≡ before ++ front)
split_last [] left rest p e h = (rest, e, refl)
split_last (b ∷ before) left [] p e h = let l : length (b ∷ before ++ left) ≡ 1 = ap length e in let m : length (before ++ left) ≡ length before + length left = length-append before left in absurd (omega arith)
split_last (b ∷ before) left (r ∷ rest) p e h = let w = split_last before left rest p (cc) (omega arith) in (w.0, w.1, cc)

-- how far names were taken back
pub record Left (i i' : Inference) (before added : List Past) : Type 0 where
  pub left : List Past
  pub names : List Known
  pub is : i' ≡ record i { names = names; past = before ++ left }
  pub back : undone left names ≡ undone added i.names

pub left_all : (i : Inference) (before added : List Past) → i.past ≡ before ++ added → Left i i before added
left_all i before added e = record { left = added; names = i.names; is = λ k. record i { past = e k }; back = refl }

pub left_less : (i i1 : Inference) (rest before added : List Past) (p : Past) → length before < length i1.past → i1.past ≡ rest ++ p ∷ [] → Left i i1 before added → Left i (record i1 { names = with_known i1.names p.name p.known; past = rest }) before added
left_less i i1 rest before added p lt e l =
    let el : i1.past ≡ before ++ l.left = ap (λ (x : Inference). x.past) l.is in
    let en : i1.names ≡ l.names = ap (λ (x : Inference). x.names) l.is in
    let w = split_last before l.left rest p (sym el ∙ e) (subst (λ ps. length before < length ps) el lt) in record {
      left = w.0;
      names = with_known i1.names p.name p.known;
      is = subst (λ (x : Inference). record x { names = with_known i1.names p.name p.known; past = rest } ≡ record i { names = with_known i1.names p.name p.known; past = before ++ w.0 }) (sym l.is) (λ k. record i { names = with_known i1.names p.name p.known; past = w.2 k });
      back = ap (λ ns. undone w.0 (with_known ns p.name p.known)) en ∙ sym (undone_last w.0 p l.names) ∙ ap (λ ps. undone ps l.names) (sym w.1) ∙ l.back;
    }

pub left_none : (i i' : Inference) (before added : List Past) → length i'.past ≤ length before → Left i i' before added → i' ≡ record i { names = undone added i.names; past = before }
left_none i i' before added le l = l.is ∙ go l.left l.names (subst (λ (x : Inference). length x.past ≤ length before) l.is le) l.back
  where
    go : (left : List Past) (names : List Known) → length (before ++ left) ≤ length before → undone left names ≡ undone added i.names → record i { names = names; past = before ++ left } ≡ record i { names = undone added i.names; past = before }
    go [] names h e = λ k. record i { names = (sym (undone_none names) ∙ e) k; past = append_none before k }
      where
        append_none : (xs : List Past) → xs ++ [] ≡ xs
        append_none [] = refl
        append_none (x ∷ xs) = ap (λ l. x ∷ l) (append_none xs)
    go (p ∷ left) names h e = let m : length (before ++ p ∷ left) ≡ length before + length (p ∷ left) = length-append before (p ∷ left) in absurd (omega arith)

-- what was noted in two rows
pub undone_both : (ps qs : List Past) (names : List Known) → undone (ps ++ qs) names ≡ undone ps (undone qs names)
unfolding undone
undone_both [] qs names = refl
undone_both (p ∷ ps) qs names = ap (λ ns. with_known ns p.name p.known) (undone_both ps qs names)

set_twice : (names : List Known) (b : ℕ) (k : Known) → b < length names → with_known (with_known names b k) b (known_at names b) ≡ names
unfolding known_at with_known
set_twice [] b k h = absurd (omega arith)
set_twice (x ∷ names) zero k h = refl
set_twice (x ∷ names) (suc b) k h = ap (λ l. x ∷ l) (set_twice names b k (omega arith))

-- one name is taken back
pub undone_one : (names : List Known) (b : ℕ) (k : Known) → b < length names → undone (record { name = b; known = known_at names b } ∷ []) (with_known names b k) ≡ names
unfolding undone
undone_one names b k h = set_twice names b k h
