-- A definition that has been gone over: what it claims, whether it is generalised, and what stands behind it.
use Rattle.std.proofs.Common.{◌≡◌, ℕ, ◌+◌, ◌<◌, ◌≤◌, Bool, true, false, List, [], ◌∷◌, ◌++◌, length, refl, sym, ◌∙◌, ap, subst, arith}
use Rattle.std.specs.List.{Contains}
use mathlib.Core.Logic.{inl, inr}
use Rattle.fut_scalar.specs.declared.place.BindId.{BindId}
use Rattle.fut_types.specs.declared.Kind.{Kind}
use Rattle.fut_types.specs.Shapes.{Shapes}
use Rattle.fut_types.specs.Types.{Sub, Kinds}
use Rattle.fut_flat.specs.Terms.{Parameter, Size_parameter, Type_parameter}
use Rattle.fut_flat.specs.Numbers.{numbers}
use Rattle.fut_flat.specs.Erased.{FlatTerm}
use Rattle.fut_typing.specs.Names.{Names, AreNames}
use Rattle.fut_typing.specs.Free.{has_types, is_free}
use Rattle.fut_typing.specs.Scopes.{Scope}
use Rattle.fut_typing.specs.Patterns.{with_parameters}
use Rattle.fut_typing.specs.Generalised.{own_types, Scheme, Reused}
use Rattle.fut_typing.specs.Homes.{Env, Needs, def, env_parameters, named_scheme, scope_of, written_if, Homed}
use Rattle.fut_typing.specs.Program.{Defined}
use Rattle.fut_typing.specs.Typing.{Typed}
use Rattle.fut_typing.proofs.Cong.{generalised_same, named_depends, scope_local}
use Rattle.fut_typing.proofs.Deep.{kept_home}
use Rattle.fut_typing.proofs.Envs.{scope_parameters}
use Rattle.type_answers.proofs.Spelling.{one_text}
use Rattle.type_graph.specs.Graph.{far, Reading, Tables, read, Solves}
use Rattle.type_graph.specs.State.{State}
use Rattle.type_graph.specs.Claims.{Possible}
use Rattle.type_graph.specs.Rereading.{Apart, Bears_it}
use Rattle.type_schemes.specs.Schemes.{Definition, definition, ReadsElse}
use Rattle.type_schemes.proofs.Regions.{copies_known, copies_region}
use Rattle.type_schemes.specs.Uses.{type_numbers, types_read, Ended, IsOne}
use Rattle.type_schemes.specs.Uses.{Generalises as Is_generalised}
use Rattle.type_schemes.proofs.UseLaws.{law}
use Rattle.type_schemes.proofs.Readings.{one_of, params_same, types_own}
use Rattle.type_scopes.specs.declared.names.Known.{Known}
use Rattle.type_scopes.specs.declared.names.Known.TheVariants as known
use Rattle.type_scopes.specs.declared.names.Seat.{Seat}
use Rattle.type_scopes.specs.declared.Inference.{Inference}
use Rattle.type_scopes.specs.Table.{entered, known_at, seat_at}
use Rattle.type_scopes.specs.Scopes.{Around, Claim, Claimed, Depends, Homes, Later, More, Opened, Puts, Reads, Ready, Refused, Safe, Stored}
use Rattle.type_scopes.proofs.Going.{extends_then, later_then, ready_next, stored_more, wider_none}
use Rattle.type_scopes.proofs.Opening.{knows_with, later_back, later_entered, means_uses, more_entered, same_more}
use Rattle.type_scopes.specs.Definitions.{Definition_claim, Definition_homes, Escapes, Generalises, env_definition, named}
use Rattle.type_scopes.specs.Parameters.{Meets_all}
use Rattle.type_scopes.proofs.Meeting.{all_later, all_once, all_stand, Stands_at}
use Rattle.type_scopes.proofs.Reading.{reads_read}
use Rattle.type_scopes.proofs.Rows.{each_map, each_one}
use Rattle.type_scopes.proofs.Within.{all_bear, before_to, own_born, own_new, params_put, ready_within}
use Rattle.type_graph.specs.Graph.{Each}

-- the value, whose type the name has
abbrev pub Value_claim : Kind → FlatTerm → ℕ → Claim
Value_claim places v lo N scope K a = Typed N places v (1 + lo) scope K a × (a lo ≡ a (1 + lo))

abbrev pub Value_homes : ℕ → FlatTerm → ℕ → Homes
Value_homes d v lo home = (w : Around d) × Homed home d w.0 v (1 + lo)

written_within : (f : Bool) (d w : ℕ) → w ≤ d → written_if f (1 + d) w ≤ 1 + d
written_within true d w h = omega arith
written_within false d w h = omega arith

pub value_homes : (d lo : ℕ) (b : BindId) (ps : List (Parameter BindId)) (v : FlatTerm) (home : ℕ → ℕ) → Definition_homes d (named b ps v) lo home → Value_homes (1 + d) v lo home
value_homes d lo b ps v home h = (
  (written_if (has_types ps) (1 + d) h.0.0, written_within (has_types ps) d h.0.0 h.0.1),
  subst (λ m. Homed home (1 + d) (written_if (has_types ps) (1 + d) h.0.0) v m) (let e : lo + 1 ≡ 1 + lo = omega arith in e) h.1.1,
)

names_apart : (N : Names) (S : Shapes) (m : ℕ) → AreNames N → S ≡ N.shapes → Apart S m
names_apart N S m are e = subst (λ (X : Shapes). Apart X m) (sym e) (record {
  positions = λ x y p lx ly f g.
      let s = are.placed x p f in let t = are.placed y p g in
      s.1 ∙ ap N.label (one_text p s.0 t.0 ((are.position s.0 p).0 (ap N.shapes.position (sym s.1) ∙ f)) ((are.position t.0 p).0 (ap N.shapes.position (sym t.1) ∙ g))) ∙ sym t.1;
})

-- one of the type parameters
all_one : (places : Kind) (ps : List (Parameter BindId)) → Each (λ n. (k : Kind) × IsOne places ps n k) (type_numbers ps)
all_one places [] = tt
all_one places (Size_parameter b ∷ ps) = all_one places ps
all_one places (Type_parameter b lifted ∷ ps) = (
  (_, inl (refl, refl)),
  each_map (λ n. (k : Kind) × IsOne places ps n k) (λ n. (k : Kind) × IsOne places (Type_parameter b lifted ∷ ps) n k) (λ n x. (x.0, inr x.1)) (type_numbers ps) (all_one places ps),
)

module _ (places : Kind) (base d lo : ℕ) (b : BindId) (ps : List (Parameter BindId)) (v : FlatTerm) where
  abbrev pub it : Defined
  it = named b ps v

  abbrev pub end : ℕ
  end = lo + (1 + numbers v)

  abbrev scheme : Names → Env → Scheme
  scheme N E = named_scheme N places b ps v lo (scope_of N places E)

  typed_to : (N : Names) (E : Env) (c : Sub) (K : Kinds) (a : Sub) → (scheme N E).typed c K a → Value_claim places v lo N (scope_of N places (env_parameters ps c E)) K a
  typed_to N E c K a h = let e : lo + 1 ≡ 1 + lo = omega arith in (
    subst (λ (z : Scope). Typed N places v (1 + lo) z K a) (sym (scope_parameters N places ps c E)) (subst (λ m. Typed N places v m (with_parameters ps c (scope_of N places E)) K a) e h.0.1),
    h.1 ∙ ap a e,
  )

  typed_from : (N : Names) (E : Env) (c : Sub) (K : Kinds) (a : Sub) → Value_claim places v lo N (scope_of N places (env_parameters ps c E)) K a → (scheme N E).typed c K a
  typed_from N E c K a h = let e : 1 + lo ≡ lo + 1 = omega arith in (
    (tt, subst (λ m. Typed N places v m (with_parameters ps c (scope_of N places E)) K a) e (subst (λ (z : Scope). Typed N places v (1 + lo) z K a) (scope_parameters N places ps c E) h.0)),
    h.1 ∙ ap a e,
  )

  -- the parameters as types of their own
  typed_own : (N : Names) (T : Tables) (E : Env) (i0 i1 : Inference) → Safe base i0 → Meets_all places base (1 + d) ps i0 i1 → ((n : ℕ) → Contains (type_numbers ps) n → length i0.nodes ≤ T.seat n) → (home born : ℕ → ℕ) → Ready N places T home born base E d lo i0 → (K : Kinds) (a : Sub) → (scheme N E).typed (own_types places ps) K a → (scheme N E).typed (types_read places T.rigid ps) K a
  typed_own N T E i0 i1 s m new home born rd K a h = (
    (tt, subst (λ (z : Scope). Typed N places v (lo + 1) z K a) (sym (params_same places (types_read places T.rigid ps) (own_types places ps) ps (scope_of N places E) (types_own places T ps (all_once places base (1 + d) ps i0 i1 s m) (λ n k o. rd.plain n k (new n o))))) h.0.1),
    h.1,
  )

  -- what a definition claims depends on its numbers, and on those that the names in scope need
  pub depends_definition : Depends places (Definition_claim places it lo) lo end
  depends_definition N E K a x same h = generalised_same places (Needs E) (scheme N E) (named_depends N places (Needs E) b ps v lo (scope_of N places E) (scope_local N places E)) K a x same h

  module _ (i0 i1 i3 : Inference) (s : Safe base i0) (m : Meets_all places base (1 + d) ps i0 i1) (room : 1 + d < far) where
    met_later : Later base i0 i1
    met_later = all_later places base (1 + d) ps i0 i1 s m

    itself : (r : Reading) → ReadsElse (type_numbers ps) r r
    itself r = record { others = λ n k never. refl }

    -- the value is refused
    pub value_refused : Refused places base (1 + d) (1 + lo) (Value_claim places v lo) (Value_homes (1 + d) v lo) i1 i3 → Refused places base d lo (Definition_claim places it lo) (Definition_homes d it lo) i0 i3
    value_refused x = record {
      labels = x.labels;
      reads = λ N T born r. met_later.reads N T born (x.reads N T born r);
      nowhere = λ N T home born E r rd h pl K a p g. let r1 = x.reads N T born r in
          x.nowhere N T home born (env_parameters ps (types_read places T.rigid ps) E) r (ready_within N places T home born base E d lo ps i0 i1 s rd m r1 T.rigid (itself T.rigid) room) (value_homes d lo b ps v home h) pl K a
          ((params_put N places T home born base E d lo ps i0 i1 s rd m r1 T.rigid (itself T.rigid)).forth K a p tt)
          (typed_to N E (types_read places T.rigid ps) K a (typed_own N T E i0 i1 s m (own_new N places T home born base E d lo ps i0 i1 s rd m r1) home born rd K a g.0));
    }

    -- the value is gone over
    module _ (c : Claimed places base (1 + d) (1 + lo) (Value_claim places v lo) (Value_homes (1 + d) v lo) i1 i3) (inside : lo + (1 + numbers v) ≤ base) where
      abbrev pub behind : Inference
      behind = record i3 { names = i0.names; past = i0.past }

      abbrev left : Definition
      left = definition i3.nodes i3.entries (type_numbers ps) d

      gone : Later base i0 i3
      gone = later_then base i0 i1 i3 met_later c.later

      pub behind_later : Later base i0 behind
      behind_later = later_back places base d lo lo i0 i3 s gone

      stand : (n : ℕ) → Contains (type_numbers ps) n → Stands_at (1 + d) (length i0.nodes) (length i1.nodes) i1.seats n
      stand n o = each_one (Stands_at (1 + d) (length i0.nodes) (length i1.nodes) i1.seats) (type_numbers ps) n (all_stand places base (1 + d) ps i0 i1 s m) o

      -- the nodes of its type parameters
      pub own_nodes : Each (λ n. (seat_at behind.seats n).node < length behind.nodes) (type_numbers ps)
      own_nodes = each_map (Stands_at (1 + d) (length i0.nodes) (length i1.nodes) i1.seats) (λ n. (seat_at behind.seats n).node < length behind.nodes)
          (λ n x. subst (λ (z : Seat). z.node < length i3.nodes) (sym (c.later.seats n x.seated_one)) (let y : (seat_at i1.seats n).node < length i1.nodes = x.below in let l : length i1.nodes ≤ length i3.nodes = c.later.longer in omega arith)) (type_numbers ps) (all_stand places base (1 + d) ps i0 i1 s m)

      module _ (N : Names) (T : Tables) (home born : ℕ → ℕ) (E : Env) (r : Reads i3 N T born) (rd : Ready N places T home born base E d lo i0) (h : Definition_homes d it lo home) where
        r1 : Reads i1 N T born
        r1 = c.later.reads N T born r

        -- for each reading of its type parameters
        module _ (u : Reading) (e : ReadsElse (type_numbers ps) T.rigid u) where
          params : Puts (read T u) born base (λ K a. Unit {0}) (λ home. Unit {0}) i0.nodes i1.nodes
          params = params_put N places T home born base E d lo ps i0 i1 s rd m r1 u e

          value : Puts (read T u) born base (Value_claim places v lo N (scope_of N places (env_parameters ps (types_read places u ps) E))) (Value_homes (1 + d) v lo) i1.nodes i3.nodes
          value = c.adds N (read T u) home born (env_parameters ps (types_read places u ps) E) (reads_read i3 N T born u r) (ready_within N places T home born base E d lo ps i0 i1 s rd m r1 u e room) (value_homes d lo b ps v home h)

          forth : (K : Kinds) (a : Sub) → Possible (read T u) base K a i0.nodes → (scheme N E).typed (types_read places u ps) K a → Possible (read T u) base K a i3.nodes
          forth K a p t = value.forth K a (params.forth K a p tt) (typed_to N E (types_read places u ps) K a t)

          back : (K : Kinds) (a : Sub) → Possible (read T u) base K a i3.nodes → Possible (read T u) base K a i0.nodes
          back K a p = params.back K a (value.back K a p)

          done : (K : Kinds) (a : Sub) → Possible (read T u) base K a i3.nodes → (scheme N E).typed (types_read places u ps) K a
          done K a p = typed_from N E (types_read places u ps) K a (value.done K a p)

        state_left : (home' : ℕ → ℕ) → State T home' base i0.nodes [] → State T home' base i3.nodes []
        state_left home' x = (value T.rigid (itself T.rigid)).state home' ((params T.rigid (itself T.rigid)).state home' x)

        ended : Ended N places T home born base i0.nodes left b ps v lo E
        ended = record {
          own = refl;
          plain = λ n k o. rd.plain n k (own_new N places T home born base E d lo ps i0 i1 s rd m r1 n o);
          once = all_once places base (1 + d) ps i0 i1 s m;
          inside = inside;
          depth = rd.depth;
          outer = λ n le. let z : far ≤ home n = rd.outer n le in let y : d < far = rd.depth in omega arith;
          later = λ n o. let z : born n ≡ 1 + d = own_born N places T home born base E d lo ps i0 i1 s rd m r1 n o in omega arith;
          here = h.1.0 lo (omega arith) (omega arith);
          written = h.0.0;
          around = h.0.1;
          homed = subst (λ m. Homed home (1 + d) (written_if (has_types ps) (1 + d) h.0.0) v m) (let e : lo + 1 ≡ 1 + lo = omega arith in e) h.1.1;
          narrow = rd.narrow;
          below = λ u e K a x same p. before_to N places T home born base E d lo ps i0 i1 s rd m r1 u e K x (rd.below K a x (λ n lt. same n (inl lt)) p);
          forth = forth;
          back = λ K a p. back T.rigid (itself T.rigid) K a p;
          done = done;
          state = state_left home rd.state;
          backed = (value T.rigid (itself T.rigid)).backed home (value_homes d lo b ps v home h) ((params T.rigid (itself T.rigid)).backed home tt rd.backed);
        }

        told_of : Is_generalised N places T home born base i0.nodes left b ps v lo E
        told_of = law N places i3.table T home born base i0.nodes left b ps v lo E gone.safe.sound.graph gone.safe.sound.bound gone.safe.sound.are r.told (names_apart N T.shapes (length i3.table.positions) r.names r.shapes) gone.safe.inside ended

        seat_is : (n : ℕ) → Contains (type_numbers ps) n → T.seat n ≡ (seat_at i3.seats n).node
        seat_is n o = let x = stand n o in (r.seats n (subst (λ (z : Seat). z.node < far) (sym (c.later.seats n x.seated_one)) x.seated_one)).0

      -- a type parameter is fixed by what stands around it
      node_is : (N : Names) (T : Tables) (born : ℕ → ℕ) → Reads i3 N T born → (n : ℕ) (k : Kind) → IsOne places ps n k → Contains (type_numbers ps) n → Bears_it T i3.nodes (seat_at i3.seats n).node n k
      node_is N T born r n k one o u K a so = let ru = reads_read i3 N T born u r in let r1 = c.later.reads N (read T u) born ru in
          ap (λ (z : Seat). a z.node) (c.later.seats n (stand n o).seated_one) ∙ one_of places (λ n k. (K : Kinds) (full : Sub) → Solves (read T u) K full i1.nodes → full (seat_at i1.seats n).node ≡ u n k) ps (all_bear N (read T u) born places base (1 + d) ps i0 i1 s m r1) n k one K a (c.later.keeps N (read T u) born ru K a so)

      pub escape_refused : (i6 : Inference) → i6 ≡ behind → Escapes (type_numbers ps) d behind → Refused places base d lo (Definition_claim places it lo) (Definition_homes d it lo) i0 i6
      escape_refused i6 is x = subst (λ (i : Inference). Refused places base d lo (Definition_claim places it lo) (Definition_homes d it lo) i0 i) (sym is) (record {
        labels = behind_later.safe.labels;
        reads = behind_later.reads;
        nowhere = λ N T home born E r rd h pl K a p g.
            let r3 : Reads i3 N T born = record { names = r.names; labelled = r.labelled; shapes = r.shapes; told = r.told; seats = r.seats } in
            let one = each_one (λ n. (k : Kind) × IsOne places ps n k) (type_numbers ps) x.number (all_one places ps) x.own_one in
            let e = ended N T home born E r3 rd h in
            (told_of N T home born E r3 rd h).escapes x.number one.0 one.1 (x.left rd.depth T home born one.0 e.backed (node_is N T born r3 x.number one.0 one.1 x.own_one)) K a p g;
      })

      -- it is generalised
      module _ (i6 : Inference) (g : Generalises (type_numbers ps) lo d b.0 behind i6) where
        abbrev copied : Inference
        copied = record behind { store = g.store; memo = g.memo }

        abbrev stands : Known
        stands = known.Definition (length i3.store) g.count

        copied_later : Later base behind copied
        copied_later = record {
          safe = record {
            table = behind_later.safe.table;
            labels = behind_later.safe.labels;
            sound = behind_later.safe.sound;
            inside = behind_later.safe.inside;
            short = g.short;
            stored = λ j lt. stored_more base (length i3.nodes) (length i3.nodes) i3.table i3.table i3.store g.store (known_at i0.names j) (omega arith) (wider_none i3.table) g.extends g.short (behind_later.safe.stored j lt);
          };
          reads = λ N T born r. record { names = r.names; labelled = r.labelled; shapes = r.shapes; told = r.told; seats = r.seats };
          seats = λ n h. refl;
          keeps = λ N T born r K a so. so;
          longer = omega arith;
          store = g.extends;
          names = refl;
          wider = wider_none i3.table;
        }

        stored : Stored base (length i3.nodes) i3.table g.store stands
        stored = (copies_region left g.store (length i3.store) g.count lo g.copies g.long g.short, copies_known i3.table left g.store (length i3.store) g.count lo gone.safe.sound.bound gone.safe.sound.are g.copies)

        whole_later : Later base i0 (entered copied b.0 stands)
        whole_later = later_then base i0 behind (entered copied b.0 stands) behind_later (later_then base behind copied (entered copied b.0 stands) copied_later (later_entered places base d end copied b.0 copied_later.safe g.inside stands stored))

        whole_more : More i0 (entered copied b.0 stands)
        whole_more = same_more i0 copied (entered copied b.0 stands) (record { names = refl; past = refl }) (more_entered places base d end copied b.0 copied_later.safe g.inside stands)

        put : (N : Names) (T : Tables) (home born : ℕ → ℕ) (E : Env) → Reads i3 N T born → Ready N places T home born base E d lo i0 → Definition_homes d it lo home → Puts T born base (Definition_claim places it lo N (scope_of N places E)) (Definition_homes d it lo) i0.nodes i3.nodes
        put N T home born E r rd h = let x = told_of N T home born E r rd h in let e = ended N T home born E r rd h in
            let p = params N T home born E r rd h T.rigid (itself T.rigid) in let q = value N T home born E r rd h T.rigid (itself T.rigid) in record {
              forth = x.forth;
              back = λ K a y. p.back K a (q.back K a y);
              done = λ K a y. x.done (λ n o. g.deep.deeper T home base n o e.state (seat_is N T home born E r rd h n o)) K a y;
              keeps = λ K a y. p.keeps K a (q.keeps K a y);
              state = λ home' y. q.state home' (p.state home' y);
              backed = λ home' h' y. q.backed home' (value_homes d lo b ps v home' h') (p.backed home' tt y);
            }

        ready_copied : (N : Names) (T : Tables) (home born : ℕ → ℕ) (E : Env) → Reads i3 N T born → Ready N places T home born base E d lo i0 → Definition_homes d it lo home → Ready N places T home born base E d end copied
        ready_copied N T home born E r rd h = ready_next N places T home born base E d lo i0 end copied (Definition_claim places it lo) (Definition_homes d it lo) (omega arith) depends_definition s refl (extends_then i0.store i3.store g.store gone.store g.extends) gone.longer rd h (put N T home born E r rd h)

        ready_behind : (N : Names) (T : Tables) (home born : ℕ → ℕ) (E : Env) → Reads i3 N T born → Ready N places T home born base E d lo i0 → Definition_homes d it lo home → Ready N places T home born base (def b ps v lo E) d end (entered copied b.0 stands)
        ready_behind N T home born E r rd h = let x = ready_copied N T home born E r rd h in let u = (told_of N T home born E r rd h).uses g.store (length i3.store) g.count g.copies in record {
          depth = x.depth;
          outer = x.outer;
          state = x.state;
          backed = x.backed;
          plain = x.plain;
          narrow = λ n. elim [
            | inl w ↦ let w1 : n < 1 + lo + numbers v = w.1 in (omega arith, kept n w.0 w.1 w.2)
            | inr y ↦ x.narrow n y
          ];
          knows = λ K full so. knows_with T.shapes copied b.0 stands (copied.past ++ record { name = b.0; known = known_at copied.names b.0 } ∷ []) (Reused places (scheme N E) lo) (scope_of N places E) K full g.inside
              (means_uses places base d end copied b.0 copied_later.safe g.inside T.shapes stands (Reused places (scheme N E) lo) (scope_of N places E) K full g.fresh (x.knows K full so) (λ t. (u.to K full t so, u.from K full t so)) (λ t z. z)) (x.knows K full so);
          below = x.below;
        }
          where
            kept : (n : ℕ) → 1 + lo ≤ n → n < 1 + lo + numbers v → is_free (has_types ps) v (1 + lo) n ≡ false → home n ≤ d
            kept n p q f =
                let z : home n ≤ h.0.0 = kept_home home (1 + d) h.0.0 (let y : h.0.0 ≤ d = h.0.1 in omega arith) ps v (1 + lo) n (subst (λ m. Homed home (1 + d) (written_if (has_types ps) (1 + d) h.0.0) v m) (let e : lo + 1 ≡ 1 + lo = omega arith in e) h.1.1) p q f in
                let y : h.0.0 ≤ d = h.0.1 in omega arith

        pub definition_opened : Opened places base d lo end (Definition_claim places it lo) (Definition_homes d it lo) (env_definition it lo) i0 i6
        definition_opened = subst (λ (i : Inference). Opened places base d lo end (Definition_claim places it lo) (Definition_homes d it lo) (env_definition it lo) i0 i) (sym g.is) (record {
          later = whole_later;
          more = whole_more;
          adds = λ N T home born E r rd h. put N T home born E (read_less N T born r) rd h;
          ready = λ N T home born E r rd h. ready_behind N T home born E (read_less N T born r) rd h;
        })
          where
            read_less : (N : Names) (T : Tables) (born : ℕ → ℕ) → Reads (entered copied b.0 stands) N T born → Reads i3 N T born
            read_less N T born r = record { names = r.names; labelled = r.labelled; shapes = r.shapes; told = r.told; seats = r.seats }
