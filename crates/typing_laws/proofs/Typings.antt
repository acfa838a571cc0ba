-- A typing under one numbering becomes a typing under the other, of each form of term and of programs.
use Rattle.std.proofs.Common.{◌≡◌, ℕ, ◌+◌, ◌≤◌, ◌<◌, refl, sym, ◌∙◌, ap, subst, arith, Bool, true, false, ◌||◌, List, [], ◌∷◌}
use mathlib.Core.Logic.{inl, inr}
use Rattle.fut_scalar.specs.declared.place.BindId.{BindId}
use Rattle.fut_flat.specs.declared.prim.Ref.{Ref}
use Rattle.fut_flat.specs.Terms.{Use, Strict, Lambda, Apply, Let, If, Loop, Terms, no_term, term_and, Counted, Over, While}
use Rattle.fut_flat.specs.Numbers.{pattern_numbers, all_pattern_numbers, own_numbers, numbers, turn_numbers}
use Rattle.fut_flat.specs.Erased.{FlatTerm, FlatTurns}
use Rattle.fut_types.specs.declared.Kind.{Kind}
use Rattle.fut_types.specs.declared.Kind.TheVariants as kind
use Rattle.fut_types.specs.Types.{Ty, Var, Made, Tys, none, more, Sub, Kinds, HasKind, level, rank, applied, all_applied}
use Rattle.fut_types.proofs.TyLaws.{rank_var}
use Rattle.fut_typing.specs.Names.{Names}
use Rattle.fut_typing.specs.Scopes.{Scope, nothing, with_sizes, the_one}
use Rattle.fut_typing.specs.Rules.{Rule}
use Rattle.fut_typing.specs.Patterns.{arrows, pattern_types, with_pattern, with_patterns, with_parameters}
use Rattle.fut_typing.specs.Free.{is_within, has_types, is_free}
use Rattle.fut_typing.specs.Generalised.{own_types, Scheme, Reused, Generalised}
use Rattle.fut_typing.specs.Typing.{term_types, operand, Function_name, with_turns, let_scheme, Let_typed, let_uses, with_let, Typed, All_typed, Turns_typed}
use Rattle.fut_typing.specs.Program.{Defined, definition_scheme, Definitions_typed, Program_typed}
use Rattle.fut_typing.specs.Declared.{Is_parameter, Declares, Some_declare, Turns_declare, Parameter_in}
use Rattle.fut_typing.proofs.Local.{AllLocal, local_parameters, local_all_ones}
use Rattle.fut_typing.proofs.Programs.{definition_depends, program_same}
use Rattle.fut_typing.proofs.Locals.{up_to, let_depends, body_local, carried_local, turned_local}
use Rattle.fut_typing.proofs.Exact.{behind_local}
use Rattle.fut_typing.proofs.Readings.{Reading, Extends, extends_self, plain, plain_read, plain_suited}
unfoldable use Rattle.fut_typing.proofs.Readings.{read}
use Rattle.fut_typing.proofs.Below.{program_below}
use Rattle.fut_typing.proofs.Instances.{Good, Chosen}
use Rattle.typing_laws.proofs.Moved.{Turn, sent, all_sent, sent_types, Faithful}
unfoldable use Rattle.typing_laws.proofs.Moved.{moved}
use Rattle.typing_laws.proofs.Follows.{Uses_follow, Follows, follows_more, follows_sizes, follows_parameters, follows_pattern, follows_ones, follows_all_ones, follows_turns, one_follows, sent_arrows, sent_patterns, sent_kind, sent_array, used_follows, pattern_follows, parameters_follow, rule_follows, written_follows}
use Rattle.typing_laws.proofs.Instances.{chosen_own, reused_follows, generalised_follows}

sent_terms : (turn : Turn) (I : Reading) (a : Sub) (ts : Terms Ref BindId) (lo : ℕ) → term_types (sent_types turn I a) ts lo ≡ all_sent turn I (term_types a ts lo)
unfolding read moved
sent_terms turn I a no_term lo = refl
sent_terms turn I a (term_and t ts) lo = ap (more (sent turn I (a lo))) (sent_terms turn I a ts (lo + numbers t))

module _ (M N : Names) (turn : Turn) (faithful : Faithful M N turn) (places : Kind) (K K' : Kinds) (D : ℕ → Type 0) (F0 : ℕ) (low : (n : ℕ) → D n → n < F0) where
  let_follows : (f : Bool) (named : Type 0) (s s' : Scheme) (x y : Sub) → (s.typed (own_types places s.parameters) K x → s'.typed (own_types places s'.parameters) K' y) → (Generalised places s K x → Generalised places s' K' y)
      → Let_typed M places f named s K x → Let_typed N places f named s' K' y
  let_follows true named s s' x y typed all h = (h.0, all h.1)
  let_follows false named s s' x y typed all h = typed h

  let_uses_follow : (I : Reading) (F : ℕ) (f : Bool) (s s' : Scheme) → ((at : ℕ) → Uses_follow turn K K' I F (Reused places s at) (Reused places s' at)) → (at : ℕ) → Uses_follow turn K K' I F (let_uses M places f s at) (let_uses N places f s' at)
  let_uses_follow I F true s s' h at = h at
  let_uses_follow I F false s s' h at = one_follows turn K K' I F at

  mutual
    unfolding read moved

    typing_moves : (t : FlatTerm) (lo : ℕ) (I : Reading) (F : ℕ) → Good places K K' D F0 low I F → ((n : ℕ) → Declares t n → D n) → (scope scope' : Scope) → AllLocal (λ n. n < lo) scope' → Follows turn K K' I F scope scope' → (a : Sub) → Typed M places t lo scope K a → Typed N places t lo scope' K' (sent_types turn I a)
    typing_moves (Use r at k) lo I F good few scope scope' local f a h = used_follows M N turn faithful places K K' I good.suited F scope scope' f a r (a lo) h
    typing_moves (Strict o mark ts) lo I F good few scope scope' local f a h = (
      typings_move ts (lo + own_numbers o) I F good few scope scope' (up_to N places lo (lo + own_numbers o) scope' (omega arith) local) f a h.0,
      subst (Rule N places K' o (sent turn I (a lo)) (sent turn I (a (operand o lo)))) (sym (sent_terms turn I a ts (lo + own_numbers o))) (rule_follows M N turn faithful places K K' I good.suited o (a lo) (a (operand o lo)) (term_types a ts (lo + own_numbers o)) h.1),
      written_follows M N turn faithful places K K' I good.suited F o scope scope' f a (a lo) h.2,
    )
    typing_moves (Lambda ps e) lo I F good few scope scope' local f a h = let at : ℕ = 1 + lo + all_pattern_numbers ps in (
      (
        parameters_follow M N turn faithful places K K' I good.suited F ps (1 + lo) scope scope' f a h.0.0,
        typing_moves e at I F good few (with_patterns the_one ps (1 + lo) scope) (with_patterns the_one ps (1 + lo) scope') (local_all_ones (λ n. n < at) ps (1 + lo) scope' (λ n p q. q) (up_to N places lo at scope' (omega arith) local)) (follows_all_ones turn K K' I F ps (1 + lo) scope scope' f) a h.0.1,
      ),
      ap (sent turn I) h.1 ∙ sent_arrows turn I (pattern_types a ps (1 + lo)) (a at) ∙ ap (λ ts. arrows ts (sent turn I (a at))) (sym (sent_patterns turn I a ps (1 + lo))),
    )
    typing_moves (Apply g e) lo I F good few scope scope' local f a h = (
      (
        typing_moves g (1 + lo) I F good (λ n i. few n (inl i)) scope scope' (up_to N places lo (1 + lo) scope' (omega arith) local) f a h.0.0,
        typing_moves e (1 + lo + numbers g) I F good (λ n i. few n (inr i)) scope scope' (up_to N places lo (1 + lo + numbers g) scope' (omega arith) local) f a h.0.1,
      ),
      ap (sent turn I) h.1,
    )
    typing_moves (Let b v e) lo I F good few scope scope' local f a h =
        let at : ℕ = 1 + lo + pattern_numbers b.pattern in
        let s : Scheme = let_scheme M places b v lo scope (Typed M places v (1 + lo + pattern_numbers b.pattern)) in
        let s' : Scheme = let_scheme N places b v lo scope' (Typed N places v (1 + lo + pattern_numbers b.pattern)) in
        let into : (n : ℕ) → Is_parameter b.parameters n → D n = λ n i. few n (inl i) in
        let free : ℕ → Bool = λ n. is_within (1 + lo) (pattern_numbers b.pattern) n || is_free (has_types b.parameters) v (1 + lo + pattern_numbers b.pattern) n in
        let move : (c c' : Sub) (J : Reading) (G : ℕ) → Good places K K' D F0 low J G → F ≤ G → Extends F I J → Chosen places K K' D F0 low b.parameters (λ n. moved turn (c n)) c' J G → (x : Sub) → s.typed c K x → s'.typed c' K' (sent_types turn J x) =
        λ c c' J G goodJ le ext chosen x t. (
          (
            pattern_follows M N turn faithful places K K' J goodJ.suited G b.pattern (1 + lo) (with_sizes b.sizes scope) (with_sizes b.sizes scope') (follows_sizes turn K K' J G b.sizes scope scope' (follows_more turn K K' I J F G scope scope' le ext f)) x t.0.0,
            typing_moves v at J G goodJ (λ n i. few n (inr (inl i))) (with_parameters b.parameters c scope) (with_parameters b.parameters c' scope') (local_parameters (λ n. n < at) b.parameters c' scope' (up_to N places lo at scope' (omega arith) local))
                (follows_parameters turn K K' J G b.parameters c c' scope scope' chosen (follows_more turn K K' I J F G scope scope' le ext f)) x t.0.1,
          ),
          ap (sent turn J) t.1,
        ) in
        let dep = let_depends N places (λ n. n < 1 + lo) b v lo scope' (up_to N places lo (1 + lo) scope' (omega arith) local) in
        let used = reused_follows M N turn faithful places K K' D F0 low I F good b.parameters (1 + lo) (pattern_numbers b.pattern + numbers v) free s.typed s'.typed dep move in (
          (
            let_follows b.is_function (Function_name b.sizes b.pattern) s s' a (sent_types turn I a) (move (own_types places b.parameters) (own_types places b.parameters) I F good (omega arith) (extends_self F I) (chosen_own M N turn faithful places K K' D F0 low b.parameters I F good into) a)
                (generalised_follows M N turn faithful places K K' D F0 low I F good b.parameters (1 + lo) (pattern_numbers b.pattern + numbers v) free s.typed s'.typed dep move into a) h.0.0,
            typing_moves e (at + numbers v) I F good (λ n i. few n (inr (inr i))) (with_let M places b lo scope s) (with_let N places b lo scope' s')
                (body_local N places (λ n. n < at + numbers v) b v lo scope' (up_to N places lo (at + numbers v) scope' (omega arith) local) (λ n e k. let k1 : n < 1 + lo + (pattern_numbers b.pattern + numbers v) = k.0.1 in omega arith) (λ n e p q. omega arith))
                (follows_pattern turn K K' I F (let_uses M places b.is_function s) (let_uses N places b.is_function s') b.pattern (1 + lo) (with_sizes b.sizes scope) (with_sizes b.sizes scope') (λ n p q. let_uses_follow I F b.is_function s s' used n) (follows_sizes turn K K' I F b.sizes scope scope' f)) a h.0.1,
          ),
          ap (sent turn I) h.1,
        )
    typing_moves (If c t e) lo I F good few scope scope' local f a h = (
      (
        (
          typing_moves c (1 + lo) I F good (λ n i. few n (inl i)) scope scope' (up_to N places lo (1 + lo) scope' (omega arith) local) f a h.0.0.0,
          typing_moves t (1 + lo + numbers c) I F good (λ n i. few n (inr (inl i))) scope scope' (up_to N places lo (1 + lo + numbers c) scope' (omega arith) local) f a h.0.0.1,
        ),
        typing_moves e (1 + lo + numbers c + numbers t) I F good (λ n i. few n (inr (inr i))) scope scope' (up_to N places lo (1 + lo + numbers c + numbers t) scope' (omega arith) local) f a h.0.1,
      ),
      ap (sent turn I) h.1,
      ap (sent turn I) h.2,
      ap (sent turn I) h.3,
      sent_kind M N turn faithful places K K' I good.suited places (a lo) h.4,
    )
    typing_moves (Loop mark sizes p first turns body) lo I F good few scope scope' local f a h =
        let at_first : ℕ = 1 + lo + pattern_numbers p in
        let at_turns : ℕ = at_first + numbers first in
        let at_body : ℕ = at_turns + turn_numbers turns in
        let inside : Scope = with_pattern the_one p (1 + lo) (with_sizes sizes scope) in
        let inside' : Scope = with_pattern the_one p (1 + lo) (with_sizes sizes scope') in
        let sized : Follows turn K K' I F (with_sizes sizes scope) (with_sizes sizes scope') = follows_sizes turn K K' I F sizes scope scope' f in
        let carried : Follows turn K K' I F inside inside' = follows_ones turn K K' I F p (1 + lo) (with_sizes sizes scope) (with_sizes sizes scope') sized in (
          (
            (
              (
                (
                  pattern_follows M N turn faithful places K K' I good.suited F p (1 + lo) (with_sizes sizes scope) (with_sizes sizes scope') sized a h.0.0.0.0.0,
                  typing_moves first at_first I F good (λ n i. few n (inl i)) scope scope' (up_to N places lo at_first scope' (omega arith) local) f a h.0.0.0.0.1,
                ),
                ap (sent turn I) h.0.0.0.1,
              ),
              turns_move turns at_turns I F good (λ n i. few n (inr (inl i))) scope scope' inside inside' (up_to N places lo at_turns scope' (omega arith) local) (carried_local N places mark sizes p first turns body lo scope' local (λ n. n < at_turns) (λ n lt. omega arith)) f carried a h.0.0.1,
            ),
            typing_moves body at_body I F good (λ n i. few n (inr (inr i))) (with_turns turns at_turns inside) (with_turns turns at_turns inside') (turned_local N places mark sizes p first turns body lo scope' local (λ n. n < at_body) (λ n lt. lt)) (follows_turns turn K K' I F turns at_turns inside inside' carried) a h.0.1,
          ),
          ap (sent turn I) h.1,
          ap (sent turn I) h.2,
          sent_kind M N turn faithful places K K' I good.suited places (a lo) h.3,
        )

    typings_move : (ts : Terms Ref BindId) (lo : ℕ) (I : Reading) (F : ℕ) → Good places K K' D F0 low I F → ((n : ℕ) → Some_declare ts n → D n) → (scope scope' : Scope) → AllLocal (λ n. n < lo) scope' → Follows turn K K' I F scope scope' → (a : Sub) → All_typed M places ts lo scope K a → All_typed N places ts lo scope' K' (sent_types turn I a)
    typings_move no_term lo I F good few scope scope' local f a h = h
    typings_move (term_and t ts) lo I F good few scope scope' local f a h = (
      typing_moves t lo I F good (λ n i. few n (inl i)) scope scope' local f a h.0,
      typings_move ts (lo + numbers t) I F good (λ n i. few n (inr i)) scope scope' (up_to N places lo (lo + numbers t) scope' (omega arith) local) f a h.1,
    )

    turns_move : (t : FlatTurns) (lo : ℕ) (I : Reading) (F : ℕ) → Good places K K' D F0 low I F → ((n : ℕ) → Turns_declare t n → D n) → (scope scope' inner inner' : Scope) → AllLocal (λ n. n < lo) scope' → AllLocal (λ n. n < lo) inner' → Follows turn K K' I F scope scope' → Follows turn K K' I F inner inner' → (a : Sub)
        → Turns_typed M places t lo scope inner K a → Turns_typed N places t lo scope' inner' K' (sent_types turn I a)
    turns_move (Counted i n) lo I F good few scope scope' inner inner' local locali f fi a h = (
      typing_moves n (1 + lo) I F good few scope scope' (up_to N places lo (1 + lo) scope' (omega arith) local) f a h.0,
      ap (sent turn I) h.1,
      sent_kind M N turn faithful places K K' I good.suited kind.Integer (a lo) h.2,
    )
    turns_move (Over p e) lo I F good few scope scope' inner inner' local locali f fi a h = (
      (
        pattern_follows M N turn faithful places K K' I good.suited F p lo inner inner' fi a h.0.0,
        typing_moves e (lo + pattern_numbers p) I F good few scope scope' (up_to N places lo (lo + pattern_numbers p) scope' (omega arith) local) f a h.0.1,
      ),
      sent_array M N turn faithful places K K' I good.suited (a (lo + pattern_numbers p)) (a lo) h.1,
    )
    turns_move (While c) lo I F good few scope scope' inner inner' local locali f fi a h = (typing_moves c lo I F good few inner inner' locali fi a h.0, ap (sent turn I) h.1)

  -- ---- definitions
  definition_moves : (I : Reading) (F : ℕ) (d : Defined) (lo : ℕ) (scope scope' : Scope) → ((n : ℕ) → Declares d.value n → D n) → AllLocal (λ n. n < lo) scope' → Follows turn K K' I F scope scope'
      → (c c' : Sub) (J : Reading) (G : ℕ) → Good places K K' D F0 low J G → F ≤ G → Extends F I J → Chosen places K K' D F0 low d.parameters (λ n. moved turn (c n)) c' J G → (x : Sub)
      → (definition_scheme M places d lo scope).typed c K x → (definition_scheme N places d lo scope').typed c' K' (sent_types turn J x)
  definition_moves I F d lo scope scope' few local f c c' J G good le ext chosen x t = let at : ℕ = lo + pattern_numbers d.name in let further : Follows turn K K' J G scope scope' = follows_more turn K K' I J F G scope scope' le ext f in (
    (
      pattern_follows M N turn faithful places K K' J good.suited G d.name lo scope scope' further x t.0.0,
      typing_moves d.value at J G good few (with_parameters d.parameters c scope) (with_parameters d.parameters c' scope') (local_parameters (λ n. n < at) d.parameters c' scope' (up_to N places lo at scope' (omega arith) local))
          (follows_parameters turn K K' J G d.parameters c c' scope scope' chosen further) x t.0.1,
    ),
    ap (sent turn J) t.1,
  )

  definitions_move : (ds : List Defined) (lo : ℕ) (I : Reading) (F : ℕ) → Good places K K' D F0 low I F → ((n : ℕ) → Parameter_in ds n → D n) → (scope scope' : Scope) → AllLocal (λ n. n < lo) scope' → Follows turn K K' I F scope scope' → (a : Sub)
      → Definitions_typed M places ds lo scope K a → Definitions_typed N places ds lo scope' K' (sent_types turn I a)
  definitions_move [] lo I F good few scope scope' local f a h = h
  definitions_move (d ∷ ds) lo I F good few scope scope' local f a h =
      let s : Scheme = definition_scheme M places d lo scope in
      let s' : Scheme = definition_scheme N places d lo scope' in
      let dep = definition_depends N places (λ n. n < lo) d lo scope' local in
      let move = definition_moves I F d lo scope scope' (λ n i. few n (inr (inl i))) local f in
      let used = reused_follows M N turn faithful places K K' D F0 low I F good d.parameters lo (pattern_numbers d.name + numbers d.value) s.free s.typed s'.typed dep move in (
        generalised_follows M N turn faithful places K K' D F0 low I F good d.parameters lo (pattern_numbers d.name + numbers d.value) s.free s.typed s'.typed dep move (λ n i. few n (inl i)) a h.0,
        definitions_move ds (lo + (pattern_numbers d.name + numbers d.value)) I F good (λ n i. few n (inr (inr i))) (with_pattern (Reused places s) d.name lo scope) (with_pattern (Reused places s') d.name lo scope') (behind_local N places d lo scope' local)
            (follows_pattern turn K K' I F (Reused places s) (Reused places s') d.name lo scope scope' (λ n p q. used n) f) a h.1,
      )

mutual
  unfolding applied

  pub self_applied : (t : Ty) → applied (λ n. Var n) t ≡ t
  self_applied (Var n) = refl
  self_applied (Made h ts) = ap (Made h) (all_self_applied ts)

  all_self_applied : (ts : Tys) → all_applied (λ n. Var n) ts ≡ ts
  all_self_applied none = refl
  all_self_applied (more t ts) = λ i. more (self_applied t i) (all_self_applied ts i)

pub variable_kind : (K : Kinds) (v : ℕ) → HasKind K (K v) (Var v)
variable_kind K v = let e : rank K (Var v) ≡ level (K v) = rank_var K v in omega arith

pub program_moves : (M N : Names) (turn : Turn) → Faithful M N turn → (places : Kind) (ds : List Defined) (K : Kinds) (a : Sub) → Program_typed M places ds K a → Program_typed N places ds K (λ n. moved turn (a n))
program_moves M N turn faithful places ds K a h = let below = program_below ds in let same : Reading = plain (λ n. Var n) in
    program_same N places ds K (sent_types turn same a) (λ n. moved turn (a n)) (λ n lt. plain_read (λ n. Var n) (moved turn (a n)) ∙ self_applied (moved turn (a n)))
    (definitions_move M N turn faithful places K K (Parameter_in ds) below.0 below.1 ds 0 same below.0 (record { suited = plain_suited K K (λ n. Var n) (variable_kind K); plain = λ n k d. refl; over = omega arith }) (λ n i. i) nothing nothing (λ b K a a' t e u. absurd u) (record { uses = λ b J su e a t u. absurd u; types = λ b J su e t u. absurd u }) a h)
