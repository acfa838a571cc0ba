-- What code holds of all that was declared, and what a step of it does.
use Rattle.std.specs.Prelude.{◌≡◌, ℕ, List, [], ◌∷◌, map, reverse, Result, Ok, Err}
use Rattle.fut_tree.specs.Names.{maybe, names}
use Rattle.fut_flat.specs.declared.program.Definition.{Definition}
use Rattle.fut_flat.specs.Erased.{parameters, term_of}
use Rattle.elab_scopes.specs.Names.{Refusal}
use Rattle.elab_scopes.specs.Programs.{FlatDefinition}
use Rattle.elab_scopes.specs.Scopes.{Member, Module_ref}
use Rattle.elab_scopes.specs.Table.{locals_of, made_of, modules_in}
use Rattle.elab_scopes.specs.Declarations.{Meeting, hidden, shown, nothing, Given_type, Giving, the_body, of_another, names_alone, Block, Instance, Functor, Signature, Here, State, Step}
use Rattle.elab_scopes.specs.declared.refusal.Refusal.{Refusal as HeldRefusal}
use Rattle.elab_scopes.specs.declared.refusal.Stop.{Stop}
use Rattle.elab_scopes.specs.declared.refusal.Stop.TheVariants as stop
use Rattle.elab_scopes.specs.Answers.{refusal_of}
use Rattle.elab_scopes.specs.Held.{member_of, module_ref_of}
use Rattle.elab_scopes.specs.declared.meanings.Member.{Member as HeldMember}
use Rattle.module_state.specs.declared.state.Block.{Block as HeldBlock}
use Rattle.module_state.specs.declared.state.Specified.{Specified}
use Rattle.module_state.specs.declared.state.Meeting.{Meeting as HeldMeeting}
use Rattle.module_state.specs.declared.state.Meeting.TheVariants as held_meeting
use Rattle.module_state.specs.declared.state.Given.{Given}
use Rattle.module_state.specs.declared.state.Giving.{Giving as HeldGiving}
use Rattle.module_state.specs.declared.state.Giving.TheVariants as held_giving
use Rattle.module_state.specs.declared.state.Functor.{Functor as HeldFunctor}
use Rattle.module_state.specs.declared.state.Signature.{Signature as HeldSignature}
use Rattle.module_state.specs.declared.state.Here.{Here as HeldHere}
use Rattle.module_state.specs.declared.state.Loaded.{Loaded}
use Rattle.module_state.specs.declared.state.Declaring.{Declaring}

abbrev pub definition_of : Definition → FlatDefinition
definition_of d = record { bind = d.bind; parameters = parameters d.heads.now; value = term_of d.value.now; is_entry = d.is_entry; file = d.file }

abbrev pub giving_of : HeldGiving → Giving
giving_of (held_giving.Body t m) = the_body (maybe t) m.now
giving_of (held_giving.Another k hides t) = of_another k hides t.now
giving_of held_giving.Names = names_alone

abbrev pub functor_of : HeldFunctor → Functor
functor_of f = record { file = f.file; parameter = f.parameter.now; bound = f.bound.now; names = f.names.now; gives = giving_of f.gives; bare = module_ref_of f.bare }

abbrev pub signature_of : HeldSignature → Signature
signature_of g = record { tree = g.tree.now; names = g.names.now }

abbrev pub here_of : HeldHere → Here
here_of h = record { file = h.file; live = h.live; names = h.names.now }

abbrev pub given_of : Given → Given_type
given_of g = record { path = names g.path.now; type = g.ty }

abbrev pub meeting_of : HeldMeeting → Meeting
meeting_of (held_meeting.Hidden m gs) = hidden (module_ref_of m) (map given_of gs.now)
meeting_of (held_meeting.Shown m gs) = shown (module_ref_of m) (map given_of gs.now)
meeting_of held_meeting.Nothing = nothing

-- a member of a module type, alone
abbrev pub alone : HeldMember → List Member
alone m = member_of m ∷ []

-- what later members of a module type see, and the members that were met
abbrev pub specified_of : Specified → List Member × List Member
specified_of b = (b.seen.now, b.met.now)

abbrev pub met_of : Specified → List Member
met_of b = b.met.now

abbrev pub block_of : HeldBlock → Block
block_of b = record { names = b.names.now; exported = b.exported.now; own = b.own.now }

abbrev pub loaded_of : Loaded → ℕ × Module_ref
loaded_of l = (l.file, module_ref_of l.module)

abbrev pub flats : List Instance → List FlatDefinition
flats = map (λ (i : Instance). i.flat)

-- what is held stands for the state; no local names are in scope
pub record Stands (d : Declaring) (s : State) : Type 0 where
  pub made : made_of d.names ≡ s.made
  pub modules : modules_in d.names ≡ s.modules
  pub functors : map functor_of d.functors ≡ s.functors
  pub signatures : map signature_of d.signatures ≡ s.signatures
  pub definitions : map definition_of d.definitions.items ≡ flats s.instances
  pub applications : d.applications ≡ s.applications
  pub start : d.start.now ≡ s.start
  pub loaded : reverse (map loaded_of d.loaded) ≡ s.loaded
  pub locals : locals_of d.names ≡ []

-- a step went, and what is held stands for where it went
pub record Done {A : Type 0} (a : A) (r : Result (A × State) Refusal) (d : Declaring) : Type 0 where
  pub state : State
  pub is : r ≡ Ok (a, state)
  pub stands : Stands d state

-- what code does, by the step of the definition that it takes; memory may run out
pub data Does {R A : Type 0} (view : R → A) (step : Step A) (d d' : Declaring) : Result R Stop → Type 0 where
  does : {x : R} → ((s : State) → Stands d s → Done (view x) (step s) d') → Does view step d d' (Ok x)
  refuses : {e : HeldRefusal} → ((s : State) → Stands d s → step s ≡ Err (refusal_of e)) → Does view step d d' (Err (stop.Refused e))
  stops : Does view step d d' (Err stop.Memory)
