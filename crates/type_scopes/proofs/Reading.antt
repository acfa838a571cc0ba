-- Type parameters of which no node has come yet may be read otherwise.
use Rattle.std.proofs.Common.{◌≡◌, ℕ, ◌<◌, ◌≤◌, List, [], length, refl, sym, ◌∙◌, subst, arith}
use Rattle.std.specs.List.{Contains}
use Rattle.fut_types.specs.declared.Kind.{Kind}
use Rattle.fut_types.specs.declared.Head.TheVariants as head
use Rattle.fut_types.specs.Types.{Ty, Sub, Kinds}
use Rattle.fut_typing.specs.Names.{Names}
use Rattle.type_graph.specs.declared.Form.{Form}
use Rattle.type_graph.specs.declared.Form.TheVariants as form
use Rattle.type_graph.specs.declared.Node.{Node}
use Rattle.type_graph.specs.declared.Task.{Task}
use Rattle.type_graph.specs.Graph.{node_at, Each, Once, Reading, Tables, read, Shows, Solves, parts_of}
use mathlib.Core.Logic.{inl, inr}
use Rattle.type_graph.specs.State.{State, Sure}
use Rattle.type_graph.specs.Claims.{Possible}
use Rattle.type_schemes.specs.Schemes.{ReadsElse}
use Rattle.type_schemes.proofs.Laws.{contains_or}
use Rattle.type_scopes.specs.declared.Inference.{Inference}
use Rattle.type_scopes.specs.Scopes.{Reads}

-- what does not depend on how type parameters are read
pub parts_read : (T : Tables) (r : Reading) (f : Form) → parts_of T f ≡ parts_of (read T r) f
parts_read T r form.Free = refl
parts_read T r (form.Link j) = refl
parts_read T r (form.Made h x n) = refl
parts_read T r (form.Open e n) = refl

once_read : (T : Tables) (r : Reading) (f : Form) → Once T f ≡ Once (read T r) f
once_read T r form.Free = refl
once_read T r (form.Link j) = refl
once_read T r (form.Made h x n) = refl
once_read T r (form.Open e n) = refl

pub state_read : (T : Tables) (r : Reading) (home : ℕ → ℕ) (base : ℕ) (nodes : List Node) (tasks : List Task) → State T home base nodes tasks → State (read T r) home base nodes tasks
state_read T r home base nodes tasks s = record {
  top = s.top;
  tops = s.tops;
  capped = s.capped;
  parts = λ i q lt h. subst (λ cs. Each (λ c. Sure nodes tasks s.top q c) cs) (parts_read T r (node_at nodes i).form) (s.parts i q lt h);
  bare = s.bare;
  afar = s.afar;
  homes = s.homes;
  once = λ i lt. subst (λ (X : Type 0). X) (once_read T r (node_at nodes i).form) (s.once i lt);
  seated = s.seated;
}

pub reads_read : (i : Inference) (N : Names) (T : Tables) (born : ℕ → ℕ) (r : Reading) → Reads i N T born → Reads i N (read T r) born
reads_read i N T born r h = record { names = h.names; labelled = h.labelled; shapes = h.shapes; told = record { shapes = h.told.shapes; listed = h.told.listed }; seats = h.seats }

shows_read : (T : Tables) (r : Reading) (a : Sub) (t : Ty) (f : Form) → ((n : ℕ) (k : Kind) (x c : ℕ) → f ≡ form.Made (head.Rigid n k) x c → T.rigid n k ≡ r n k) → Shows T a t f → Shows (read T r) a t f
shows_read T r a t form.Free h s = tt
shows_read T r a t (form.Link j) h s = s
shows_read T r a t (form.Made (head.Rigid n k) x c) h s = s ∙ h n k x c refl
shows_read T r a t (form.Made (head.Scalar z) x c) h s = s
shows_read T r a t (form.Made head.Array x c) h s = s
shows_read T r a t (form.Made head.Tuple x c) h s = s
shows_read T r a t (form.Made (head.Record n) x c) h s = s
shows_read T r a t (form.Made head.Fun x c) h s = s
shows_read T r a t (form.Made (head.Abstract n d) x c) h s = s
shows_read T r a t (form.Open e n) h s = s

module _ (T : Tables) (home : ℕ → ℕ) (base : ℕ) (nodes : List Node) (state : State T home base nodes []) (own : List ℕ) (new : (n : ℕ) → Contains own n → length nodes ≤ T.seat n) (r : Reading) (else_ : ReadsElse own T.rigid r) where
  same : (i n : ℕ) (k : Kind) (x c : ℕ) → i < length nodes → (node_at nodes i).form ≡ form.Made (head.Rigid n k) x c → T.rigid n k ≡ r n k
  same i n k x c lt is = elim (contains_or own n) as (λ d. T.rigid n k ≡ r n k) [
    | inl o ↦ let z : T.seat n < length nodes = (state.seated n i lt (k, x, c, is)).0 in let y : length nodes ≤ T.seat n = new n o in absurd (omega arith)
    | inr never ↦ sym (else_.others n k never)
  ]

  solves_to : (K : Kinds) (a : Sub) → Solves T K a nodes → Solves (read T r) K a nodes
  solves_to K a s = record { fits = λ i lt. let f = s.fits i lt in record { shows = shows_read T r a (a i) (node_at nodes i).form (λ n k x c is. same i n k x c lt is) f.shows; has = f.has } }

  pub solves_from : (K : Kinds) (a : Sub) → Solves (read T r) K a nodes → Solves T K a nodes
  solves_from K a s = record { fits = λ i lt. let f = s.fits i lt in record { shows = shows_read (read T r) T.rigid a (a i) (node_at nodes i).form (λ n k x c is. sym (same i n k x c lt is)) f.shows; has = f.has } }

  pub possible_to : (K : Kinds) (a : Sub) → Possible T base K a nodes → Possible (read T r) base K a nodes
  possible_to K a p = record { full = p.full; agrees = p.agrees; solves = solves_to K p.full p.solves }

  pub possible_from : (K : Kinds) (a : Sub) → Possible (read T r) base K a nodes → Possible T base K a nodes
  possible_from K a p = record { full = p.full; agrees = p.agrees; solves = solves_from K p.full p.solves }
