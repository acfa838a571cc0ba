-- What is found in a tree where a name has another meaning.
use Rattle.std.proofs.Common.{◌≡◌, ℕ, ◌/◌, ◌%◌, Bool, Result, Ok, Err, IfOk, eq-eqb, true, false, cond, refl, sym, ap, ◌∙◌, subst}
use Rattle.std.specs.Borrow.{Bor}
use Rattle.std.specs.Str.{bytes_eq}
use Rattle.std.proofs.lemmas.Bool.{ne_eqb}
use Rattle.std.proofs.lemmas.Slice.Eq.{bytes_eq-Decides}
use Rattle.fut_ast.specs.Sorts.{Text}
use Rattle.elab_scopes.specs.declared.meanings.Meanings.{Meanings}
use Rattle.elab_scopes.specs.declared.tree.Node.{Node}
use Rattle.elab_scopes.specs.declared.tree.Tree.{Tree, Leaf}
use Rattle.elab_scopes.specs.declared.tree.Tree.TheViews.{Fork}
use Rattle.elab_scopes.specs.Numbers.{digits_of}
use Rattle.elab_scopes.specs.Held.{no_meaning}
use Rattle.elab_scopes.specs.Trees.{is_odd, meant_by, meant, Forks, Put_by, Put}

either : {A : Type 0} (t : Bool) (o : A) → cond t o o ≡ o
either true o = refl
either false o = refl

same_text : (x : Text) → bytes_eq x x ≡ true
same_text x = (bytes_eq-Decides x x).1 refl

pub equal : (x y : Text) → bytes_eq x y ≡ true → x ≡ y
equal x y e = (bytes_eq-Decides x y).0 e

module _ (x : Text) (m : Meanings) (digits : ℕ) where
  -- a name where there was none
  pub put_leaf : (after : Tree) → Forks x m Leaf Leaf after → Put_by digits x m Leaf after
  unfolding Forks Put_by meant_by
  put_leaf after f = (
    f digits x ∙ ap (λ t. cond t m (cond (is_odd digits) no_meaning no_meaning)) (same_text x),
    λ others y n. f others y ∙ ap (λ t. cond t m (cond (is_odd others) no_meaning no_meaning)) n ∙ either (is_odd others) no_meaning,
  )

  -- a name that the node has
  pub put_here : (y : Text) (b : Meanings) (even odd before after : Tree) → bytes_eq y x ≡ true → Forks y b even odd before → Forks x m even odd after → Put_by digits x m before after
  unfolding Forks Put_by
  put_here y b even odd before after e g f = (
    f digits x ∙ ap (λ t. cond t m (cond (is_odd digits) (meant_by odd (digits / 2) x) (meant_by even (digits / 2) x))) (same_text x),
    λ others z n. f others z ∙ ap (λ t. cond t m (cond (is_odd others) (meant_by odd (others / 2) z) (meant_by even (others / 2) z))) n
        ∙ sym (g others z ∙ ap (λ t. cond t b (cond (is_odd others) (meant_by odd (others / 2) z) (meant_by even (others / 2) z))) (ap (λ w. bytes_eq w z) (equal y x e) ∙ n)),
  )

  -- a name whose next digit is 1
  pub put_odd : (y : Text) (b : Meanings) (even odd odd' before after : Tree) → bytes_eq y x ≡ false → is_odd digits ≡ true → Forks y b even odd before → Put_by (digits / 2) x m odd odd' → Forks y b even odd' after → Put_by digits x m before after
  unfolding Forks Put_by
  put_odd y b even odd odd' before after n o g (here, there) f = (
    f digits x ∙ ap (λ t. cond t b (cond (is_odd digits) (meant_by odd' (digits / 2) x) (meant_by even (digits / 2) x))) n
        ∙ ap (λ t. cond t (meant_by odd' (digits / 2) x) (meant_by even (digits / 2) x)) o ∙ here,
    λ others z k. f others z ∙ ap (λ r. cond (bytes_eq y z) b (cond (is_odd others) r (meant_by even (others / 2) z))) (there (others / 2) z k) ∙ sym (g others z),
  )

  -- a name whose next digit is 0
  pub put_even : (y : Text) (b : Meanings) (even odd even' before after : Tree) → bytes_eq y x ≡ false → is_odd digits ≡ false → Forks y b even odd before → Put_by (digits / 2) x m even even' → Forks y b even' odd after → Put_by digits x m before after
  unfolding Forks Put_by
  put_even y b even odd even' before after n o g (here, there) f = (
    f digits x ∙ ap (λ t. cond t b (cond (is_odd digits) (meant_by odd (digits / 2) x) (meant_by even' (digits / 2) x))) n
        ∙ ap (λ t. cond t (meant_by odd (digits / 2) x) (meant_by even' (digits / 2) x)) o ∙ here,
    λ others z k. f others z ∙ ap (λ r. cond (bytes_eq y z) b (cond (is_odd others) (meant_by odd (others / 2) z) r)) (there (others / 2) z k) ∙ sym (g others z),
  )

-- ---- as the code has them

fork_is : (n : Bor Node) → Forks n.now.name.now n.now.meanings n.now.even n.now.odd (Fork n)
unfolding Forks meant_by
fork_is n = λ digits x. refl

fork_of : (t : Tree) (n : Bor Node) → t ≡ Fork n → Forks n.now.name.now n.now.meanings n.now.even n.now.odd t
fork_of t n e = subst (Forks n.now.name.now n.now.meanings n.now.even n.now.odd) (sym e) (fork_is n)

pub forks_as : (n : Bor Node) (v : Node) → n.now ≡ v → Forks v.name.now v.meanings v.even v.odd (Fork n)
forks_as n v e = subst (λ (z : Node). Forks z.name.now z.meanings z.even z.odd (Fork n)) e (fork_is n)

pub leaf_means : (t : Tree) (digits : ℕ) (x : Text) → t ≡ Leaf → no_meaning ≡ meant_by t digits x
unfolding meant_by
leaf_means t digits x e = ap (λ z. meant_by z digits x) (sym e)

module _ (t : Tree) (n : Bor Node) (digits : ℕ) (x : Text) (is : t ≡ Fork n) where
  pub here_means : bytes_eq n.now.name.now x ≡ true → n.now.meanings ≡ meant_by t digits x
  unfolding Forks
  here_means e = sym (fork_of t n is digits x ∙ ap (λ b. cond b n.now.meanings (cond (is_odd digits) (meant_by n.now.odd (digits / 2) x) (meant_by n.now.even (digits / 2) x))) e)

  pub odd_means : (m : Meanings) → bytes_eq n.now.name.now x ≡ false → digits % 2 ≡ 1 → m ≡ meant_by n.now.odd (digits / 2) x → m ≡ meant_by t digits x
  unfolding Forks
  odd_means m e o i = i ∙ sym (fork_of t n is digits x ∙ ap (λ b. cond b n.now.meanings (cond (is_odd digits) (meant_by n.now.odd (digits / 2) x) (meant_by n.now.even (digits / 2) x))) e ∙ ap (λ b. cond b (meant_by n.now.odd (digits / 2) x) (meant_by n.now.even (digits / 2) x)) (eq-eqb (digits % 2) 1 o))

  pub even_means : (m : Meanings) → bytes_eq n.now.name.now x ≡ false → (digits % 2 ≡ 1 → ⊥) → m ≡ meant_by n.now.even (digits / 2) x → m ≡ meant_by t digits x
  unfolding Forks
  even_means m e o i = i ∙ sym (fork_of t n is digits x ∙ ap (λ b. cond b n.now.meanings (cond (is_odd digits) (meant_by n.now.odd (digits / 2) x) (meant_by n.now.even (digits / 2) x))) e ∙ ap (λ b. cond b (meant_by n.now.odd (digits / 2) x) (meant_by n.now.even (digits / 2) x)) (ne_eqb (digits % 2) 1 o))

pub if_ok : {E : Type 0} {P Q : Tree → Type 0} (r : Result Tree E) → ((t : Tree) → P t → Q t) → IfOk r P → IfOk r Q
if_ok (Ok t) f p = f t p
if_ok (Err e) f p = p

pub puts_leaf : (t : Tree) (digits : ℕ) (x : Text) (m : Meanings) → t ≡ Leaf → (after : Tree) → Forks x m Leaf Leaf after → Put_by digits x m t after
puts_leaf t digits x m e after f = subst (λ z. Put_by digits x m z after) (sym e) (put_leaf x m digits after f)

module _ (t : Tree) (n : Bor Node) (digits : ℕ) (x : Text) (m : Meanings) (is : t ≡ Fork n) where
  pub puts_here : bytes_eq n.now.name.now x ≡ true → (after : Tree) → Forks x m n.now.even n.now.odd after → Put_by digits x m t after
  puts_here e after f = put_here x m digits n.now.name.now n.now.meanings n.now.even n.now.odd t after e (fork_of t n is) f

  pub puts_odd : (odd : Tree) → bytes_eq n.now.name.now x ≡ false → digits % 2 ≡ 1 → Put_by (digits / 2) x m n.now.odd odd → (after : Tree) → Forks n.now.name.now n.now.meanings n.now.even odd after → Put_by digits x m t after
  puts_odd odd e o p after f = put_odd x m digits n.now.name.now n.now.meanings n.now.even n.now.odd odd t after e (eq-eqb (digits % 2) 1 o) (fork_of t n is) p f

  pub puts_even : (even : Tree) → bytes_eq n.now.name.now x ≡ false → (digits % 2 ≡ 1 → ⊥) → Put_by (digits / 2) x m n.now.even even → (after : Tree) → Forks n.now.name.now n.now.meanings even n.now.odd after → Put_by digits x m t after
  puts_even even e o p after f = put_even x m digits n.now.name.now n.now.meanings n.now.even n.now.odd even t after e (ne_eqb (digits % 2) 1 o) (fork_of t n is) p f

pub put_whole : (x : Text) (m : Meanings) (before after : Tree) → Put_by (digits_of x) x m before after → Put x m before after
unfolding Put Put_by meant
put_whole x m before after (here, there) = λ y. at_test y (bytes_eq x y) refl
  where
    at_test : (y : Text) (t : Bool) → bytes_eq x y ≡ t → meant_by after (digits_of y) y ≡ cond t m (meant_by before (digits_of y) y)
    at_test y true e = subst (λ z. meant_by after (digits_of z) z ≡ m) (equal x y e) here
    at_test y false e = there (digits_of y) y e

pub ruleset forks = (put_whole)
