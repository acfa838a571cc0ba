-- Members and the trees by which they are found.
use Rattle.std.proofs.Common.{◌≡◌, ℕ, zero, suc, ◌+◌, ◌<◌, ◌≤◌, Bool, true, false, cond, List, [], ◌∷◌, ◌++◌, map, length, drop, drop_of_length-le, slice_index_or, Option, Some, None, refl, sym, ap, ◌∙◌, subst, arith}
use Rattle.std.specs.Str.{bytes_eq}
use Rattle.std.specs.Borrow.{Bor}
use Rattle.std.specs.Prelude.{option_map}
use Rattle.fut_ast.specs.Sorts.{Text}
use Rattle.elab_scopes.specs.Scopes.{Member, members, contents_at, value_among, type_among, module_among, signature_among}
use Rattle.elab_scopes.specs.declared.meanings.Meanings.{Meanings}
use Rattle.elab_scopes.specs.declared.meanings.Member.{Member as HeldMember}
use Rattle.elab_scopes.specs.declared.meanings.Member.TheVariants as held
use Rattle.elab_scopes.specs.declared.modules.Contents.{Contents as HeldContents}
use Rattle.elab_scopes.specs.declared.tree.Tree.{Tree, Leaf}
use Rattle.elab_scopes.specs.Held.{also, member_of, module_ref_of, text_of}
use Rattle.elab_scopes.specs.Modules.{contents_of, modules_of}
use Rattle.elab_scopes.specs.Rows.{row_of}
use Rattle.elab_scopes.specs.Trees.{meant_by, meant, Put, Indexed}
use Rattle.elab_scopes.proofs.Slices.{from_index}
use Rattle.elab_scopes.proofs.Trees.{equal}

-- ---- meanings

-- what a name means among members is what these meanings say
pub record Means (ms : List Member) (x : Text) (m : Meanings) : Type 0 where
  pub value : value_among ms x ≡ m.as_value
  pub ty : type_among ms x ≡ m.as_type
  pub submodule : module_among ms x ≡ option_map module_ref_of m.as_module
  pub signature : signature_among ms x ≡ m.as_signature

means_as : (ms : List Member) (t : Tree) (x : Text) → Indexed ms t → Means ms x (meant t x)
unfolding Indexed
means_as ms t x f = let (v, y, m, s) = f x in record { value = v; ty = y; submodule = m; signature = s }

pub value_meant : (ms : List Member) (t : Tree) (x : Text) → Indexed ms t → value_among ms x ≡ (meant t x).as_value
value_meant ms t x f = (means_as ms t x f).value

pub type_meant : (ms : List Member) (t : Tree) (x : Text) → Indexed ms t → type_among ms x ≡ (meant t x).as_type
type_meant ms t x f = (means_as ms t x f).ty

pub module_meant : (ms : List Member) (t : Tree) (x : Text) → Indexed ms t → module_among ms x ≡ option_map module_ref_of (meant t x).as_module
module_meant ms t x f = (means_as ms t x f).submodule

pub signature_meant : (ms : List Member) (t : Tree) (x : Text) → Indexed ms t → signature_among ms x ≡ (meant t x).as_signature
signature_meant ms t x f = (means_as ms t x f).signature

pub ruleset meaning = (value_meant, type_meant, module_meant, signature_meant)

-- ---- one more member

-- a newer member of another name changes nothing
older_means : (a : HeldMember) (ms : List Member) (y : Text) (m : Meanings) → bytes_eq (text_of a) y ≡ false → Means ms y m → Means (member_of a ∷ ms) y m
unfolding value_among type_among module_among signature_among
older_means (held.Value x r) ms y m n f = record { value = ap (λ t. cond t (Some r) (value_among ms y)) n ∙ f.value; ty = f.ty; submodule = f.submodule; signature = f.signature }
older_means (held.Type x r) ms y m n f = record { value = f.value; ty = ap (λ t. cond t (Some r) (type_among ms y)) n ∙ f.ty; submodule = f.submodule; signature = f.signature }
older_means (held.Module x r) ms y m n f = record { value = f.value; ty = f.ty; submodule = ap (λ t. cond t (Some (module_ref_of r)) (module_among ms y)) n ∙ f.submodule; signature = f.signature }
older_means (held.Signature x k) ms y m n f = record { value = f.value; ty = f.ty; submodule = f.submodule; signature = ap (λ t. cond t (Some k) (signature_among ms y)) n ∙ f.signature }

-- its own name means it, in its space
newest_means : (a : HeldMember) (ms : List Member) (m : Meanings) → bytes_eq (text_of a) (text_of a) ≡ true → Means ms (text_of a) m → Means (member_of a ∷ ms) (text_of a) (also a m)
unfolding value_among type_among module_among signature_among
newest_means (held.Value x r) ms m e f = record { value = ap (λ t. cond t (Some r) (value_among ms x.now)) e; ty = f.ty; submodule = f.submodule; signature = f.signature }
newest_means (held.Type x r) ms m e f = record { value = f.value; ty = ap (λ t. cond t (Some r) (type_among ms x.now)) e; submodule = f.submodule; signature = f.signature }
newest_means (held.Module x r) ms m e f = record { value = f.value; ty = f.ty; submodule = ap (λ t. cond t (Some (module_ref_of r)) (module_among ms x.now)) e; signature = f.signature }
newest_means (held.Signature x k) ms m e f = record { value = f.value; ty = f.ty; submodule = f.submodule; signature = ap (λ t. cond t (Some k) (signature_among ms x.now)) e }

indexed_by : (ms : List Member) (t : Tree) → ((x : Text) → Means ms x (meant t x)) → Indexed ms t
unfolding Indexed
indexed_by ms t f = λ x. ((f x).value, (f x).ty, (f x).submodule, (f x).signature)

pub indexed_more : (a : HeldMember) (ms : List Member) (before after : Tree) → Indexed ms before → Put (text_of a) (also a (meant before (text_of a))) before after → Indexed (member_of a ∷ ms) after
unfolding Put
indexed_more a ms before after f put = indexed_by (member_of a ∷ ms) after (λ x. at_test x (bytes_eq (text_of a) x) refl)
  where
    at_test : (x : Text) (t : Bool) → bytes_eq (text_of a) x ≡ t → Means (member_of a ∷ ms) x (meant after x)
    at_test x true e = subst (λ z. Means (member_of a ∷ ms) z (meant after z)) (equal (text_of a) x e)
        (subst (Means (member_of a ∷ ms) (text_of a)) (sym (put (text_of a) ∙ ap (λ t. cond t (also a (meant before (text_of a))) (meant before (text_of a))) (ap (bytes_eq (text_of a)) (equal (text_of a) x e) ∙ e)))
        (newest_means a ms (meant before (text_of a)) (ap (bytes_eq (text_of a)) (equal (text_of a) x e) ∙ e) (means_as ms before (text_of a) f)))
    at_test x false e = subst (Means (member_of a ∷ ms) x) (sym (put x ∙ ap (λ t. cond t (also a (meant before (text_of a))) (meant before x)) e)) (older_means a ms x (meant before x) e (means_as ms before x f))

pub indexed_none : Indexed [] Leaf
unfolding Indexed meant meant_by value_among type_among module_among signature_among
indexed_none = λ x. (refl, refl, refl, refl)

pub ruleset indexes = (indexed_more, indexed_none)

-- ---- rows one by one

pub begins : (ms : List Member) → map member_of [] ++ ms ≡ ms
begins ms = refl

shifted : (m : HeldMember) (rest : List Member) (ds : List HeldMember) → map member_of (ds ++ m ∷ []) ++ rest ≡ map member_of ds ++ (member_of m ∷ rest)
shifted m rest [] = refl
shifted m rest (d ∷ ds) = ap (λ l. member_of d ∷ l) (shifted m rest ds)

nothing_more : (ms : List Member) → ms ++ [] ≡ ms
nothing_more [] = refl
nothing_more (m ∷ ms) = ap (λ l. m ∷ l) (nothing_more ms)

pub goes_on : (done : List HeldMember) (m : HeldMember) (older : Bor (List Member)) (rest all : List Member) (row : Option (HeldMember × Bor (List Member))) → row_of row ≡ rest → row ≡ Some (m, older) → map member_of done ++ rest ≡ all → map member_of (done ++ m ∷ []) ++ older.now ≡ all
goes_on done m older rest all row view is e = shifted m older.now done ∙ ap (λ l. map member_of done ++ l) (sym (ap row_of is) ∙ view) ∙ e

pub ends : (done : List HeldMember) (rest all : List Member) (row : Option (HeldMember × Bor (List Member))) → row_of row ≡ rest → row ≡ None → map member_of done ++ rest ≡ all → map member_of done ≡ all
ends done rest all row view is e = sym (nothing_more (map member_of done)) ∙ ap (λ l. map member_of done ++ l) (sym (ap row_of is) ∙ view) ∙ e

pub ruleset rows = (begins, goes_on, ends)

-- members put before older ones, the last one first

pub all_left : (ms : List HeldMember) (older newer : List Member) → map member_of ms ≡ newer → older ≡ map member_of (drop (length ms) ms) ++ older
all_left ms older newer e = ap (λ l. map member_of l ++ older) (sym (drop_of_length-le ms (omega arith)))

pub one_put : (ms : List HeldMember) (left less : ℕ) (d : HeldMember) (all more older : List Member) → less + 1 ≡ left → left ≤ length ms → all ≡ map member_of (drop left ms) ++ older → more ≡ member_of (slice_index_or ms less d) ∷ all → more ≡ map member_of (drop less ms) ++ older
one_put ms left less d all more older one le e is = is ∙ ap (λ l. member_of (slice_index_or ms less d) ∷ l) (e ∙ ap (λ n. map member_of (drop n ms) ++ older) (sym one)) ∙ ap (λ l. map member_of l ++ older) (sym (from_index ms less d (omega (arith, one, le))))

pub none_left : (ms : List HeldMember) (all older newer : List Member) → all ≡ map member_of (drop 0 ms) ++ older → map member_of ms ≡ newer → all ≡ newer ++ older
none_left ms all older newer e is = e ∙ ap (λ l. l ++ older) is

pub ruleset puts = (all_left, one_put, none_left)

-- ---- modules by their numbers

pub contents_there : (cs : List HeldContents) (k : ℕ) (d : HeldContents) → k < length cs → contents_of (slice_index_or cs k d) ≡ contents_at (modules_of cs) k
unfolding contents_at
contents_there [] k d lt = absurd (omega (arith, lt))
contents_there (b ∷ cs) zero d lt = refl
contents_there (b ∷ cs) (suc k) d lt = contents_there cs k d (omega (arith, lt))

pub contents_past : (cs : List HeldContents) (k : ℕ) → length cs ≤ k → members [] ≡ contents_at (modules_of cs) k
unfolding contents_at
contents_past [] k le = refl
contents_past (b ∷ cs) zero le = absurd (omega (arith, le))
contents_past (b ∷ cs) (suc k) le = contents_past cs k (omega (arith, le))

pub ruleset modules = (contents_there, contents_past)

pub no_value : (x : Text) → value_among [] x ≡ None
unfolding value_among
no_value x = refl

pub no_type : (x : Text) → type_among [] x ≡ None
unfolding type_among
no_type x = refl

pub no_module : (x : Text) → module_among [] x ≡ None
unfolding module_among
no_module x = refl

pub no_signature : (x : Text) → signature_among [] x ≡ None
unfolding signature_among
no_signature x = refl

pub ruleset empties = (no_value, no_type, no_module, no_signature)
