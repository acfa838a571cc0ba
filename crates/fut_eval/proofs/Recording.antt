-- Records and parts that are made.
use Rattle.std.proofs.Common.{◌≡◌, List, [], ◌∷◌, ◌++◌, length, get_or, Ok, Err, Result, refl, sym, ap, ◌∙◌, subst, arith, Bor}
use Rattle.fut_scalar.specs.declared.place.Place.{Place}
use Rattle.fut_ast.specs.Sorts.{Text}
use Rattle.fut_flat.specs.Erased.{texts}
use Rattle.fut_value.specs.Data.{Record_datum}
use Rattle.fut_meaning.specs.Outcomes.{Out, Val, Fail, Wrong, and_then}
use Rattle.fut_blocks.specs.declared.block.Atom.{Atom}
use Rattle.fut_blocks.specs.declared.block.Making.{Making}
use Rattle.fut_blocks.specs.declared.block.Making.TheVariants as make
use Rattle.fut_blocks.specs.Meaning.{Component, value_of, values_of, act_means}
use Rattle.fut_blocks.specs.Plain.{Reading, Read, Record_with, Part_at, Replace_at, Fields_at, making_form}
use Rattle.fut_blocks.specs.Records.{reads, datum_part, datum_fields, named_data}
use Rattle.array_data.specs.declared.data.Data.{Data}
use Rattle.array_data.specs.declared.stop.Stop.{Stop}
use Rattle.array_data.specs.declared.stop.Stop.TheVariants.{Memory}
use Rattle.array_data.specs.Held.{held, held_all}
use Rattle.array_data.specs.Records.{Comes_to, comes_to, no_memory_comes, All_put, all_put, not_all_put, replaced_of, fields_of}
use Rattle.fut_eval.specs.Answers.{Answer, Tells, told, report_told, no_memory_told, lost, ran, no_memory, Pushed, pushed, not_pushed, Reads, Reads_data, as_only}
use Rattle.fut_eval.specs.Runs.{Made_runs}
use Rattle.fut_eval.proofs.Tells.{the_is, runs_stop, runs_next, kept_same, fit_any}

-- ---- one atom

only_atom : (us : List Atom) (u : Atom) → length us ≡ 1 → us ≡ get_or us 0 u ∷ []
only_atom [] u l = absurd (omega arith)
only_atom (a ∷ []) u l = refl
only_atom (a ∷ b ∷ us) u l = absurd (omega arith)

alone_told : (o : Out Component) (r : Result Component Stop) → Tells o r → Tells (and_then o (λ v. and_then (Val []) (λ vs. Val (v ∷ vs)))) (as_only r)
alone_told o _ (told q) = told (ap (λ z. and_then z (λ v. and_then (Val []) (λ vs. Val (v ∷ vs)))) q)
alone_told o _ (report_told q) = report_told (ap (λ z. and_then z (λ v. and_then (Val []) (λ vs. Val (v ∷ vs)))) q)
alone_told o _ no_memory_told = no_memory_told
alone_told o r (lost q) = lost (ap (λ z. and_then z (λ v. and_then (Val []) (λ vs. Val (v ∷ vs)))) q)

pub only_read : (t : List Component) (us : List Atom) (u : Atom) (r : Result Component Stop) → length us ≡ 1 → Reads t (get_or us 0 u) r → Reads_data t us (as_only r)
unfolding Reads Reads_data
only_read t us u r l h env n st = subst (λ z. Tells (values_of env z) (as_only r)) (sym (only_atom us u l)) (alone_told (value_of env (get_or us 0 u)) r (h env n st))

pub only_memory : (t : List Component) (us : List Atom) → Reads_data t us (as_only (Err Memory))
unfolding Reads_data
only_memory t us env n st = no_memory_told

pub ruleset only_reading = (only_read, only_memory)

-- ---- what is read of values

module _ (k : Reading) (us : List Atom) (t s : List Component) where
  pub unread : (e : Stop) → Reads_data t us (Err e) → Made_runs (Read k us) t s s (Err e)
  unfolding Made_runs Reads_data act_means
  unread e h budget env n st = runs_stop n t t s s (values_of env us) (reads k) e (h env n st)

  pub read_memory : (s' : List Component) → Made_runs (Read k us) t s s' (Err Memory)
  unfolding Made_runs
  read_memory s' budget env n st = no_memory

  all_read : (ds es : List Component) (s' : List Component) → Reads_data t us (Ok ds) → reads k ds ≡ Val es → s' ≡ s ++ es → Made_runs (Read k us) t s s' (Ok tt)
  unfolding Made_runs Reads_data act_means
  all_read ds es s' h q p budget env n st = runs_next n t t s s' (values_of env us) (reads k) ds (Ok tt) (h env n st) (ran es 0 p (fit_any es) (kept_same n t) (the_is (reads k ds) (Val es) q))

  one_read : (ds : List Component) (d : Component) (s' : List Component) (r : Answer) → Reads_data t us (Ok ds) → reads k ds ≡ Val (d ∷ []) → Pushed d s s' r → Made_runs (Read k us) t s s' r
  one_read ds d s' _ h q not_pushed = read_memory s'
  one_read ds d s' _ h q (pushed p) = all_read ds (d ∷ []) s' h q p

module _ (us : List Atom) (t s s' : List Component) where
  pub record_put : (fs : List Text) (ds : List Component) (d : Component) (r : Answer) → Reads_data t us (Ok ds) → d ≡ Record_datum (named_data fs ds) → Pushed d s s' r → Made_runs (Read (Record_with fs) us) t s s' r
  unfolding reads
  record_put fs ds d r h e p = one_read (Record_with fs) us t s ds d s' r h (ap (λ z. Val (z ∷ [])) (sym e)) p

  pub part_put : (f : Text) (d e : Component) (r : Answer) → Reads_data t us (as_only (Ok d)) → Comes_to (datum_part f d) (Ok e) → Pushed e s s' r → Made_runs (Read (Part_at f) us) t s s' r
  unfolding reads
  part_put f d e r h (comes_to q) p = one_read (Part_at f) us t s (d ∷ []) e s' r h (ap (λ z. and_then z (λ e. Val (e ∷ []))) q) p

  pub part_missed : (f : Text) (d : Component) (e : Stop) → Comes_to (datum_part f d) (Err e) → Made_runs (Read (Part_at f) us) t s s' (Err e)
  part_missed f d _ no_memory_comes = read_memory (Part_at f) us t s s'

  two_held : (vs : List Data) (v w : Data) → length vs ≡ 2 → held_all vs ≡ held (get_or vs 0 v) ∷ held (get_or vs 1 w) ∷ []
  unfolding held_all
  two_held [] v w l = absurd (omega arith)
  two_held (a ∷ []) v w l = absurd (omega arith)
  two_held (a ∷ b ∷ []) v w l = refl
  two_held (a ∷ b ∷ c ∷ vs) v w l = absurd (omega arith)

  then_read : {A B C : Type 0} (o : Out A) (k : A → B) (g : B → C) (c : B) → and_then o (λ a. Val (k a)) ≡ Val c → and_then o (λ a. Val (g (k a))) ≡ Val (g c)
  then_read (Val a) k g c e = ap (λ z. and_then z (λ b. Val (g b))) e
  then_read (Fail r) k g c e = cc
  then_read Wrong k g c e = cc

  pub replaced_put : (f : Text) (vs : List Data) (v w : Data) (d : Component) (r : Answer) → Reads_data t us (Ok (held_all vs)) → length vs ≡ 2 → Comes_to (replaced_of f (held (get_or vs 0 v)) (held (get_or vs 1 w))) (Ok d) → Pushed d s s' r → Made_runs (Read (Replace_at f) us) t s s' r
  unfolding reads
  replaced_put f vs v w d r h l (comes_to q) p =
      one_read (Replace_at f) us t s (held_all vs) d s' r h
      (ap (reads (Replace_at f)) (two_held vs v w l) ∙ then_read (datum_fields (held (get_or vs 0 v))) _ (λ z. z ∷ []) d q) p

  pub replaced_missed : (f : Text) (d v : Component) (e : Stop) → Comes_to (replaced_of f d v) (Err e) → Made_runs (Read (Replace_at f) us) t s s' (Err e)
  replaced_missed f d v _ no_memory_comes = read_memory (Replace_at f) us t s s'

  pub fields_read : (fs : List Text) (d : Component) (r : Answer) → Reads_data t us (as_only (Ok d)) → All_put (fields_of fs d) s s' r → Made_runs (Read (Fields_at fs) us) t s s' r
  unfolding reads
  fields_read fs d _ h (all_put {es} q p) = all_read (Fields_at fs) us t s (d ∷ []) es s' h q p
  fields_read fs d _ h not_all_put = read_memory (Fields_at fs) us t s s'

pub only_unread : (k : Reading) (us : List Atom) (t s : List Component) (e : Stop) → Reads_data t us (as_only (Err e)) → Made_runs (Read k us) t s s (Err e)
only_unread k us t s e h = unread k us t s e h

pub ruleset record_made = (unread, read_memory, record_put)

pub ruleset part_made = (only_unread, part_missed, part_put)

pub ruleset replaced_made = (unread, read_memory, replaced_missed, replaced_put)

pub ruleset fields_made = (only_unread, fields_read)

-- ---- which making

module _ (m : Making) (at : Place) (us : List Atom) (t s s' : List Component) (r : Answer) where
  making_is : (k : Reading) → making_form m at us ≡ Read k us → Made_runs (Read k us) t s s' r → Made_runs (making_form m at us) t s s' r
  making_is k e h = subst (λ z. Made_runs z t s s' r) (sym e) h

  pub making_record : (fs : Bor (List (Bor Text))) → m ≡ make.Record fs → Made_runs (Read (Record_with (texts fs.now)) us) t s s' r → Made_runs (making_form m at us) t s s' r
  unfolding making_form
  making_record fs e = making_is (Record_with (texts fs.now)) (ap (λ z. making_form z at us) e)

  pub making_part : (f : Bor Text) → m ≡ make.Part f → Made_runs (Read (Part_at f.now) us) t s s' r → Made_runs (making_form m at us) t s s' r
  unfolding making_form
  making_part f e = making_is (Part_at f.now) (ap (λ z. making_form z at us) e)

  pub making_replaced : (f : Bor Text) → m ≡ make.Replace f → Made_runs (Read (Replace_at f.now) us) t s s' r → Made_runs (making_form m at us) t s s' r
  unfolding making_form
  making_replaced f e = making_is (Replace_at f.now) (ap (λ z. making_form z at us) e)

  pub making_fields : (fs : Bor (List (Bor Text))) → m ≡ make.Fields fs → Made_runs (Read (Fields_at (texts fs.now)) us) t s s' r → Made_runs (making_form m at us) t s s' r
  unfolding making_form
  making_fields fs e = making_is (Fields_at (texts fs.now)) (ap (λ z. making_form z at us) e)

pub ruleset record_makings = (making_record, making_part, making_replaced, making_fields)
