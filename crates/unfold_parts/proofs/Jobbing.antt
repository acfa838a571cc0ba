-- Primitives on arrays: their data, their function, and what it gives.
use Rattle.std.proofs.Common.{◌≡◌, ℕ, zero, suc, ◌+◌, ◌<◌, ◌≤◌, ◌++◌, List, [], ◌∷◌, map, length, get_or, drop, Option, Some, None, Ok, Err, refl, sym, ap, ◌∙◌, subst, append_assoc, append-nil, arith}
use Rattle.std.specs.Borrow.{Bor}
use Rattle.std.specs.Prelude.{Result}
use Rattle.std.proofs.lemmas.List.{drop_all, map-append}
use Rattle.fut_scalar.specs.declared.place.Place.{Place}
use Rattle.fut_flat.specs.declared.prim.Primitive.{Primitive}
use Rattle.fut_meaning.specs.Datums.{takes}
use Rattle.fut_meaning.specs.Knowns.{with_some}
use Rattle.fut_meaning.specs.Operations.{parameters_of}
use Rattle.fut_blocks.proofs.Layers.{action_of-Primitive}
use Rattle.fut_blocks.specs.declared.row.RowShape.{RowShape}
use Rattle.fut_blocks.specs.declared.block.Act.TheVariants as act
use Rattle.fut_blocks.specs.declared.block.Atom.{Atom}
use Rattle.fut_blocks.specs.declared.block.Block.{Block}
use Rattle.fut_blocks.specs.Rows.{row_of}
use Rattle.fut_blocks.specs.Plain.{Job as Job_action, action_of, body_of, lets}
use Rattle.unfold.specs.Held.{known_of}
use Rattle.unfold.specs.Knowns.{Known}
use Rattle.unfold.specs.Stuck.{the_function}
use Rattle.unfold.specs.Unfolding.{Bindings, step, Packs_all, data_known, function_known}
use Rattle.unfold.specs.declared.known.Known.{Known as Held_known}
use Rattle.unfold_parts.specs.Answers.{Answered, answered, unanswered, Is_step, is_step, Blocked, blocked, not_blocked, Packed_to, All_packed_to, Are_named, Newly_named, newly_named, not_newly_named}
use Rattle.unfold_parts.specs.Told.{Held_sizes}
use Rattle.unfold_parts.specs.Jobs.{Function_row, Data_to, data_to, no_data_to, Begun_to, Ended_to, ended_to, not_ended}
use Rattle.unfold_parts.specs.Refused.{lost, no_memory}
use Rattle.unfold_parts.specs.declared.jobs.Job.{Job}
use Rattle.unfold_parts.specs.declared.new_names.Named.{Named}
use Rattle.unfold_parts.specs.declared.refusal.Refusal.{Refusal}
use Rattle.unfold_parts.specs.declared.refusal.Refusal.TheVariants.{Lost, Memory}
use Rattle.unfold_parts.proofs.Lists.{one_more}
use Rattle.unfold_parts.proofs.Refusing.{refused_as, only_memory}

-- ---- the data

module _ (ks : List ℕ) (args : List Held_known) where
  abbrev pub Data_lead : ℕ → ℕ → List Held_known → Type 0
  Data_lead i j chosen = (us : List Known) → data_known (drop i ks) (map known_of (drop j args)) ≡ Some us → data_known ks (map known_of args) ≡ Some (map known_of chosen ++ us)

  both_more : (i j d : ℕ) (s : Held_known) → i < length ks → j < length args → data_known (drop i ks) (map known_of (drop j args)) ≡ data_known (get_or ks i d ∷ drop (i + 1) ks) (known_of (get_or args j s) ∷ map known_of (drop (j + 1) args))
  both_more i j d s lt lt' = ap (λ z. data_known z (map known_of (drop j args))) (one_more ks i d lt) ∙ ap (λ z. data_known (get_or ks i d ∷ drop (i + 1) ks) (map known_of z)) (one_more args j s lt')

  pub data_on : (i j d : ℕ) (s : Held_known) (chosen chosen' : List Held_known) → i < length ks → j < length args → get_or ks i d ≡ 0 → Data_lead i j chosen → chosen' ≡ chosen ++ get_or args j s ∷ [] → Data_lead (i + 1) (j + 1) chosen'
  data_on i j d s chosen chosen' lt lt' z h q us e =
      h (known_of (get_or args j s) ∷ us) (both_more i j d s lt lt' ∙ ap (λ k. data_known (k ∷ drop (i + 1) ks) (known_of (get_or args j s) ∷ map known_of (drop (j + 1) args))) z ∙ ap (λ o. with_some o (λ ts. Some (known_of (get_or args j s) ∷ ts))) e)
      ∙ ap Some (sym (ap (λ z. map known_of z ++ us) q ∙ ap (λ z. z ++ us) (map-append known_of chosen (get_or args j s ∷ [])) ∙ append_assoc (map known_of chosen) (known_of (get_or args j s) ∷ []) us))

  passed : (k : ℕ) (rest : List ℕ) (s : Known) (ss : List Known) → (k ≡ 0 → ⊥) → data_known (k ∷ rest) (s ∷ ss) ≡ data_known rest ss
  passed zero rest s ss h = absurd (h refl)
  passed (suc k) rest s ss h = refl

  pub data_past : (i j d : ℕ) (s : Held_known) (chosen : List Held_known) → i < length ks → j < length args → (get_or ks i d ≡ 0 → ⊥) → Data_lead i j chosen → Data_lead (i + 1) (j + 1) chosen
  data_past i j d s chosen lt lt' ne h us e = h us (both_more i j d s lt lt' ∙ passed (get_or ks i d) (drop (i + 1) ks) (known_of (get_or args j s)) (map known_of (drop (j + 1) args)) ne ∙ e)

  pub data_end : (i j : ℕ) (chosen : List Held_known) (row : Bor (List Held_known)) → length ks ≤ i → length args ≤ j → Data_lead i j chosen → row.now ≡ chosen → Data_to ks (map known_of args) (Ok row)
  data_end i j chosen row le le' h q = data_to (h [] (ap (λ z. data_known z (map known_of (drop j args))) (drop_all i ks le) ∙ ap (λ z. data_known [] (map known_of z)) (drop_all j args le')) ∙ ap Some (append-nil (map known_of chosen) ∙ ap (map known_of) (sym q)))

unlike : (ks : List ℕ) (ss : List Held_known) (us : List Known) → (length ks ≡ length ss → ⊥) → data_known ks (map known_of ss) ≡ Some us → ⊥
unlike [] [] us h e = h refl
unlike [] (s ∷ ss) us h e = let z : None ≡ Some us = e in cc
unlike (k ∷ ks) [] us h e = let z : None ≡ Some us = e in cc
unlike (zero ∷ ks) (s ∷ ss) us h e = inside (data_known ks (map known_of ss)) (λ ts. unlike ks ss ts (λ q. h (ap suc q))) e
  where
    inside : (o : Option (List Known)) → ((ts : List Known) → o ≡ Some ts → ⊥) → with_some o (λ ts. Some (known_of s ∷ ts)) ≡ Some us → ⊥
    inside None never q = let z : None ≡ Some us = q in cc
    inside (Some ts) never q = never ts refl
unlike (suc k ∷ ks) (s ∷ ss) us h e = unlike ks ss us (λ q. h (ap suc q)) e

pub data_unlike : (ks : List ℕ) (ss : List Held_known) → (length ks ≡ length ss → ⊥) → Data_to ks (map known_of ss) (Err Lost)
data_unlike ks ss h = no_data_to (lost (λ us. unlike ks ss us h))

-- ---- the function

no_function : (ks : List ℕ) (other : Known) → function_known ks [] other ≡ other
no_function [] other = refl
no_function (k ∷ ks) other = refl

module _ (ks : List ℕ) (args : List Held_known) (other : Known) where
  abbrev pub Function_lead : ℕ → ℕ → Type 0
  Function_lead i j = function_known ks (map known_of args) other ≡ function_known (drop i ks) (map known_of (drop j args)) other

  past_one : (k : ℕ) (rest : List ℕ) (j : ℕ) (xs : List Held_known) → (0 < k → j < length xs → ⊥) → function_known (k ∷ rest) (map known_of (drop j xs)) other ≡ function_known rest (map known_of (drop (j + 1) xs)) other
  past_one k rest j [] never = ap (λ z. function_known (k ∷ rest) (map known_of z) other) (drop_all j [] (omega arith)) ∙ sym (no_function rest other) ∙ ap (λ z. function_known rest (map known_of z) other) (sym (drop_all (j + 1) [] (omega arith)))
  past_one zero rest zero (x ∷ xs) never = let e : 0 + 1 ≡ suc 0 = omega arith in ap (λ z. function_known rest (map known_of (drop z (x ∷ xs))) other) (sym e)
  past_one (suc k) rest zero (x ∷ xs) never = absurd (never (omega arith) (omega arith))
  past_one k rest (suc j) (x ∷ xs) never = let e : suc j + 1 ≡ suc (j + 1) = omega arith in past_one k rest j xs (λ pos lt. never pos (omega (arith, lt))) ∙ ap (λ z. function_known rest (map known_of (drop z (x ∷ xs))) other) (sym e)

  pub function_past : (i j d : ℕ) → i < length ks → (0 < get_or ks i d → j < length args → ⊥) → Function_lead i j → Function_lead (i + 1) (j + 1)
  function_past i j d lt never h = h ∙ ap (λ z. function_known z (map known_of (drop j args)) other) (one_more ks i d lt) ∙ past_one (get_or ks i d) (drop (i + 1) ks) j args never

  pub function_here : (i j d : ℕ) (s : Held_known) → i < length ks → j < length args → 0 < get_or ks i d → Function_lead i j → known_of (get_or args j s) ≡ function_known ks (map known_of args) other
  function_here i j d s lt lt' pos h = sym (h ∙ ap (λ z. function_known z (map known_of (drop j args)) other) (one_more ks i d lt) ∙ ap (λ z. function_known (get_or ks i d ∷ drop (i + 1) ks) (map known_of z) other) (one_more args j s lt') ∙ taken (get_or ks i d) pos)
    where
      taken : (k : ℕ) → 0 < k → function_known (k ∷ drop (i + 1) ks) (known_of (get_or args j s) ∷ map known_of (drop (j + 1) args)) other ≡ known_of (get_or args j s)
      taken zero pos = absurd (omega (arith, pos))
      taken (suc k) pos = refl

  pub function_end : (i j : ℕ) (s : Known) → length ks ≤ i → Function_lead i j → s ≡ other → s ≡ function_known ks (map known_of args) other
  function_end i j s le h e = e ∙ sym (h ∙ ap (λ z. function_known z (map known_of (drop j args)) other) (drop_all i ks le))

-- ---- how many arguments it takes

module _ (ks : List ℕ) where
  pub takes_past : (i d : ℕ) → i < length ks → (0 < get_or ks i d → ⊥) → takes ks ≡ takes (drop i ks) → takes ks ≡ takes (drop (i + 1) ks)
  takes_past i d lt never h = h ∙ ap takes (one_more ks i d lt) ∙ by_first (get_or ks i d) never
    where
      by_first : (k : ℕ) → (0 < k → ⊥) → takes (k ∷ drop (i + 1) ks) ≡ takes (drop (i + 1) ks)
      by_first zero never = refl
      by_first (suc k) never = absurd (never (omega arith))

  pub takes_here : (i d : ℕ) → i < length ks → 0 < get_or ks i d → takes ks ≡ takes (drop i ks) → get_or ks i d ≡ takes ks
  takes_here i d lt pos h = sym (h ∙ ap takes (one_more ks i d lt) ∙ by_first (get_or ks i d) pos)
    where
      by_first : (k : ℕ) → 0 < k → takes (k ∷ drop (i + 1) ks) ≡ k
      by_first zero pos = absurd (omega (arith, pos))
      by_first (suc k) pos = refl

  pub takes_end : (i : ℕ) → length ks ≤ i → takes ks ≡ takes (drop i ks) → 0 ≡ takes ks
  takes_end i le h = sym (h ∙ ap takes (drop_all i ks le))

-- ---- the beginning

module _ (p : Primitive) (ss : List Known) (n : ℕ) (before : Bindings) where
  pub begun : (us : Bor (List Held_known)) (mid next : ℕ) (between after : Bindings) (row : Bor (List Atom)) (r : Named) (j : Job) (k : ℕ) → k ≡ takes (parameters_of p) → Data_to (parameters_of p) ss (Ok us) → All_packed_to (map known_of us.now) n before between mid (Ok row) → Newly_named k mid next (Ok r) → after ≡ between → j.atoms ≡ row → j.params ≡ r.names → j.arguments ≡ r.knowns → known_of j.function ≡ the_function p ss → Begun_to p ss n before after next (Ok j)
  begun us mid next between after row r j k many (data_to e) (answered bs q packs) (newly_named new) same i1 i2 i3 f = answered bs (same ∙ q) record {
    arguments = map known_of us.now;
    are_data = e;
    packed = mid;
    packs = subst (λ (z : Bor (List Atom)). Packs_all (map known_of us.now) n bs z.now mid) (sym i1) packs;
    named = subst (λ (z : Bor (List ℕ)). Are_named (takes (parameters_of p)) mid z.now (map known_of j.arguments.now) next) (sym i2) (subst (λ (z : Bor (List Held_known)). Are_named (takes (parameters_of p)) mid r.names.now (map known_of z.now) next) (sym i3) (subst (λ z. Are_named z mid r.names.now (map known_of r.knowns.now) next) many new));
    function = f;
  }

  pub no_data : (after : Bindings) (next : ℕ) (x : Refusal) → Data_to (parameters_of p) ss (Err x) → Begun_to p ss n before after next (Err x)
  no_data after next x (no_data_to h) = unanswered (refused_as (λ never us m m' bs ws e packs. never us e) h)

  pub unpacked : (us : Bor (List Held_known)) (mid next : ℕ) (between after : Bindings) (x : Refusal) → Data_to (parameters_of p) ss (Ok us) → All_packed_to (map known_of us.now) n before between mid (Err x) → Begun_to p ss n before after next (Err x)
  unpacked us mid next between after x (data_to e) (unanswered h) = unanswered (refused_as (λ lacks ts m m' bs ws q packs. lacks m m' bs ws (subst (λ z. Packs_all z m bs ws m') (let z : Some ts ≡ Some (map known_of us.now) = sym q ∙ e in cc) packs)) h)

  pub unnamed : (k mid later next : ℕ) (after : Bindings) (x : Refusal) → Newly_named k mid later (Err x) → Begun_to p ss n before after next (Err x)
  unnamed k mid later next after _ not_newly_named = unanswered no_memory

-- ---- the end

module _ (S : Held_sizes) (mark : ℕ) (p : Primitive) (at : Place) (f : Known) (ws : Bor (List Atom)) (xs : Bor (List ℕ)) (r : Known) (n : ℕ) (before : Bindings) where
  pub ended : (rows : Bor RowShape) (mid next : ℕ) (between left after : Bindings) (w : Atom) (row : List Atom) (b : Bor Block) (x : Result Held_known Refusal) (later : ℕ) → Function_row S p f ws.now (row_of rows.now) → later ≡ mid → Packed_to r n before between mid (Ok w) → row ≡ w ∷ [] → Blocked mark row between left (Ok b) → Answered (λ bs (s : Held_known) m. Is_step (action_of (act.Primitive p at rows ws xs b)) later bs (known_of s) m) ⊥ left after next x → Ended_to S mark p at f ws.now xs.now r n before after next x
  ended rows mid next between left after w row b (Ok s) later told same (answered ds e packs) i (blocked parts) (answered bs q h) = by_step bs (known_of s) next q refl refl (subst (λ z. Is_step (action_of (act.Primitive p at rows ws xs b)) z bs (known_of s) next) same h)
    where
      body : (outside inside : Bindings) → length outside ≡ mark → before ≡ outside ++ inside → (left ≡ outside) × (body_of b.now ≡ lets (inside ++ ds) (w ∷ []))
      body outside inside l k = let t = parts outside (inside ++ ds) l (e ∙ ap (λ z. z ++ ds) k ∙ append_assoc outside inside ds) in (t.0, t.1 ∙ ap (lets (inside ++ ds)) i)

      by_step : (bs : Bindings) (t : Known) (m : ℕ) → after ≡ left ++ bs → known_of s ≡ t → next ≡ m → Is_step (action_of (act.Primitive p at rows ws xs b)) mid bs t m → Ended_to S mark p at f ws.now xs.now r n before after next (Ok s)
      by_step _ _ _ q k j is_step = ended_to told packs (λ outside inside l o. let t = body outside inside l o in q ∙ ap (λ z. z ++ step (mid ∷ []) (action_of (act.Primitive p at rows ws xs b))) t.0 ∙ ap (λ z. outside ++ step (mid ∷ []) z) (action_of-Primitive p at rows ws xs b ∙ ap (Job_action (row_of rows.now) p at ws.now xs.now) t.1)) k j
  ended rows mid next between left after w row b (Err x) later told same h i k (unanswered l) = not_ended (refused_as (λ never. absurd never) l)

  pub unended : (mid next : ℕ) (between after : Bindings) (x : Refusal) → Packed_to r n before between mid (Err x) → Ended_to S mark p at f ws.now xs.now r n before after next (Err x)
  unended mid next between after x (unanswered h) = not_ended h

  pub ended_memory : (next : ℕ) (after : Bindings) (x : Refusal) → x ≡ Memory → Ended_to S mark p at f ws.now xs.now r n before after next (Err x)
  ended_memory next after x e = not_ended (only_memory e)

  pub unblocked : {m : ℕ} {us : List Atom} {older newer : Bindings} (next : ℕ) (after : Bindings) (x : Refusal) → Blocked m us older newer (Err x) → Ended_to S mark p at f ws.now xs.now r n before after next (Err x)
  unblocked next after _ not_blocked = not_ended no_memory
