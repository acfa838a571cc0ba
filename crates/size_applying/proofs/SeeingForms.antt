-- What is seen of a node that follows another.
use Rattle.std.proofs.Common.{◌≡◌, ℕ, suc, ◌-◌, Bool, true, List, [], ◌∷◌, length, Option, Some, None, refl, sym, ap, ◌∙◌, subst, arith}
use Rattle.std.specs.Borrow.{Bor}
use Rattle.sized_types.specs.Sizes.{Size, Fun}
use Rattle.fut_sizes.specs.Applications.{all_settled}
use Rattle.fut_sizes.specs.Functions.{is_slot, quantified, sizes_in}
use Rattle.fut_sizes.specs.Matching as matching
use Rattle.fut_sizes.specs.Matching.{read}
use Rattle.size_arena.specs.declared.dims.Free as frees
use Rattle.size_arena.specs.declared.trees.SizeTree.{SizeTree}
use Rattle.size_arena.specs.declared.trees.SizeTree.TheVariants as form
use Rattle.size_arena.specs.Frames.{opened_of}
use Rattle.size_arena.specs.Trees.{size_of}
use Rattle.size_making.specs.Placing.{frees_of}
use Rattle.size_settling.proofs.OpenLaws.{to_settled, settled_quantified}
use Rattle.size_slots.specs.declared.slots.Found.{Found}
use Rattle.size_slots.specs.Held.{Holds}
use Rattle.size_applying.specs.declared.arguments.Later as laters
use Rattle.size_applying.specs.declared.seeing.Seen.{Seen}
use Rattle.size_applying.specs.Sharing.{Within_frames, Apart, Formed, Leads, Leads_to, Sees, Seen_behind, Leads_on, Has_seen}
use Rattle.size_applying.specs.Wanted.{later_size}
use Rattle.size_applying.proofs.ArgumentForms.{fun_at}
use Rattle.size_applying.proofs.FormedLaws.{settled_formed, formed_settled}
use Rattle.size_applying.proofs.SharingForms.{before_from, before_to, before_is, behind_is}

-- ---- by itself

pub has_seen : (table : Found) (l : laters.Later) (s : Seen) (σ : matching.Found) (t : Size) → t ≡ later_size l → Apart s.apart t → Holds table (all_settled t σ) → size_of s.size.now ≡ read (all_settled t σ) t
    → (s.no_slots ≡ true → sizes_in is_slot (size_of s.size.now) ≡ []) → Has_seen table l σ s
has_seen table l s σ t is apart holds reads none =
    subst (λ z. Holds table (all_settled z σ) × Sees s (all_settled z σ) z) is (holds, record { is = reads; formed = settled_formed t σ; apart = apart; none = none })

pub no_frees : (ds : List frees.Free) (t : Size) → frees_of ds ≡ sizes_in is_slot t → length ds ≡ 0 → sizes_in is_slot t ≡ []
no_frees [] t is e = sym is
no_frees (d ∷ ds) t is e = absurd (omega (arith, e))

-- ---- behind an arrow

abbrev result_of : Size → Size → Size
result_of d (Fun k p r) = r
result_of d t = d

module _ (σ : matching.Found) (k : ℕ) (p r : Size) where
  read_fun : read σ (Fun k p r) ≡ Fun k (read σ p) (read σ r)
  unfolding read
  read_fun = refl

  formed_to : Formed σ (Fun k p r) → Formed σ r
  unfolding Formed
  formed_to h = h.1

  apart_to : (m n : ℕ) → m ≡ suc n → Apart m (Fun k p r) → Within_frames 0 r × Apart n r
  unfolding Apart
  apart_to m n e h = subst (λ z. Apart z (Fun k p r)) e h

  settled_to : (t : Size) → t ≡ read σ r → sizes_in is_slot (Fun k (read σ p) t) ≡ [] → sizes_in is_slot t ≡ []
  unfolding sizes_in
  settled_to t is h = to_settled k (read σ p) t h

pub to_seen : (b s : Seen) (height l n : ℕ) (from to : Bor SizeTree) → b.size.now ≡ form.Fun height l from to → s.size ≡ to → b.apart ≡ suc n → s.apart ≡ n → s.no_slots ≡ b.no_slots
    → (σ : matching.Found) (k : ℕ) (p r : Size) → Sees b σ (Fun k p r) → Sees s σ r × Within_frames 0 r
to_seen b s height l n from to is size apart rest same σ k p r sees =
    let tree : size_of b.size.now ≡ Fun l (size_of from.now) (size_of to.now) = fun_at b.size.now height l from to is in
    let whole : size_of b.size.now ≡ Fun k (read σ p) (read σ r) = sees.is ∙ read_fun σ k p r in
    let reads : size_of s.size.now ≡ read σ r = ap (λ (z : Bor SizeTree). size_of z.now) size ∙ ap (result_of (size_of to.now)) (sym tree ∙ whole) in
    let both : Within_frames 0 r × Apart n r = apart_to σ k p r b.apart n apart sees.apart in (
      record {
        is = reads;
        formed = formed_to σ k p r sees.formed;
        apart = subst (λ z. Apart z r) (sym rest) both.1;
        none = λ so. settled_to σ k p r (size_of s.size.now) reads (ap (λ z. sizes_in is_slot (Fun k (read σ p) z)) reads ∙ ap (sizes_in is_slot) (sym whole) ∙ sees.none (sym same ∙ so));
      },
      both.0,
    )

pub last_behind : (b : Seen) (last : Option Seen) (follows : Bool) (o : Option Seen) → last ≡ Some b → follows ≡ true → Seen_behind (Some b) true o → Seen_behind last follows o
last_behind b last follows None is so h = tt
last_behind b last follows (Some s) is so h = (h.0, is ∙ h.1, so, h.3)

-- ---- of the next node

module _ (table : Found) (last : Option Seen) (m : laters.Later) (s : Seen) (σ : matching.Found) where
  sees_next : (b : Seen) (l : laters.Later) (leads : Leads l (opened_of m.frames.now) (size_of m.size.now)) → Sees b σ (later_size l) → ((k : ℕ) (p r : Size) → Sees b σ (Fun k p r) → Sees s σ r × Within_frames 0 r) → Sees s σ (later_size m)
  sees_next b l leads sees go =
      let both : Sees s σ (before_to l m leads) × Within_frames 0 (before_to l m leads) = go leads.chosen (before_from l m leads) (before_to l m leads) (subst (Sees b σ) (before_is l m leads) sees) in
      subst (Sees s σ) (behind_is l m leads both.1) both.0

  led : (b : Seen) → last ≡ Some b → Leads_on last m σ → (l : laters.Later) × Sees b σ (later_size l) × Leads_to l m
  led b is on = subst (λ z. Leads_on z m σ) is on

  pub follows_on : (o : Option Seen) → o ≡ Some s → Seen_behind last m.follows o → Holds table σ → Leads_on last m σ → Has_seen table m σ s
  follows_on o is behind holds on =
      let h : (b : Seen) × (last ≡ Some b) × (m.follows ≡ true) × ((σ : matching.Found) (k : ℕ) (p r : Size) → Sees b σ (Fun k p r) → Sees s σ r × Within_frames 0 r) = subst (Seen_behind last m.follows) is behind in
      let before : (l : laters.Later) × Sees h.0 σ (later_size l) × Leads_to l m = led h.0 h.1 on in
      let sees : Sees s σ (later_size m) = sees_next h.0 before.0 (before.2 h.2) before.1 (h.3 σ) in
      subst (λ z. Holds table z × Sees s z (later_size m)) (sym (formed_settled (later_size m) σ sees.formed)) (holds, sees)

-- ---- what is noted

module _ (s : Seen) (maker : ℕ → ℕ) (σ : matching.Found) (t : Size) (sees : Sees s σ t) where
  pub stays_quantified : s.no_slots ≡ true → size_of s.size.now ≡ quantified maker (read σ t)
  stays_quantified so = settled_quantified maker (size_of s.size.now) [] refl (sym (sees.none so)) ∙ ap (quantified maker) sees.is

  pub is_quantified : (made : Size) → made ≡ quantified maker (size_of s.size.now) → made ≡ quantified maker (read σ t)
  is_quantified made is = is ∙ ap (quantified maker) sees.is
