-- One piece more, given or taken, where what is told may be None.
use Rattle.std.proofs.Common.{◌≡◌, ◌+◌, ◌-◌, ◌≤◌, ◌++◌, ℕ, List, [], length, take, drop, refl, ap, sym, ◌∙◌, arith, append_assoc, length-drop}
use Rattle.std.specs.Prelude.{Option, Some, None, option_map, IfSome}
use Rattle.std.proofs.Math.Seq.{take-add}
use Rattle.std.proofs.lemmas.List.{drop-drop, take_rest}
use Rattle.fut_io.specs.Counts.{counted}
use Rattle.fut_io.specs.Outside.{SourceSeen, Gave, ReadPart}

pub held_more : (old now new : Option (List ℕ)) (bytes : List ℕ) (done k : ℕ) →
    now ≡ option_map (λ held. held ++ take done bytes) old →
    new ≡ option_map (λ held. held ++ take k (take (length bytes - done) (drop done bytes))) now →
    new ≡ option_map (λ held. held ++ take (done + k) bytes) old
held_more None now new bytes done k p q = rw p at q
held_more (Some held) now new bytes done k p q =
    let e = rw p at q in
    let f = simp take_rest at e in
    f ∙ ap Some (append_assoc held (take done bytes) (take k (drop done bytes)) ∙ ap (λ r. held ++ r) (sym (take-add done k bytes)))

pub left_more : (old now new : Option (List ℕ)) (done k next : ℕ) →
    next ≡ done + k →
    now ≡ option_map (drop done) old →
    new ≡ option_map (drop k) now →
    new ≡ option_map (drop next) old
left_more None now new done k next n p q = rw p at q
left_more (Some left) now new done k next n p q =
    let e = rw p at q in rw n (e ∙ ap Some (drop-drop k done left))

pub bytes_more : (old now : Option (List ℕ)) (into bytes next : List ℕ) (k : ℕ) →
    next ≡ bytes ++ take k into →
    length next ≡ length bytes + k →
    now ≡ option_map (drop (length bytes)) old →
    IfSome old (λ left. take (length bytes) left ≡ bytes) →
    IfSome now (λ left. take k left ≡ take k into) →
    IfSome old (λ left. take (length next) left ≡ next)
bytes_more None now into bytes next k d n p q r = tt
bytes_more (Some left) now into bytes next k d n p q r =
    let e = rw p at r in
    rw n (take-add (length bytes) k left ∙ ap (λ s. s ++ take k (drop (length bytes) left)) q ∙ ap (λ s. bytes ++ s) e ∙ sym d)

pub room_more : (old now : Option (List ℕ)) (done k next : ℕ) →
    next ≡ done + k →
    now ≡ option_map (drop done) old →
    IfSome old (λ left. done ≤ length left) →
    IfSome now (λ left. k ≤ length left) →
    IfSome old (λ left. next ≤ length left)
room_more None now done k next n p q r = tt
room_more (Some left) now done k next n p q r =
    let e = rw p at r in let l = length-drop done left in omega arith

pub counted_more : (a n k next m l : ℕ) → next ≡ n + k → m ≡ counted a n → l ≡ counted m k → l ≡ counted a next
counted_more a n k next m l p q r = omega arith

-- a piece more, which is not kept
pub part_more : (old now new : SourceSeen) (into : List ℕ) (done k : ℕ) →
    IfSome old.left (λ left. done ≤ length left) →
    now.left ≡ option_map (drop done) old.left →
    now.taken ≡ counted old.taken done →
    now.faults ≡ old.faults →
    Gave now new into k →
    ReadPart old new
part_more old now new into done k held left taken faults more =
    record {
      count = done + k;
      held = room_more _ _ _ _ _ refl left held more.held;
      left = left_more _ _ _ _ _ _ refl left more.left;
      taken = counted_more _ _ _ _ _ _ refl taken more.taken;
      faults = omega arith;
    }

pub left_first : (old : Option (List ℕ)) (bytes : List ℕ) → bytes ≡ [] → old ≡ option_map (drop (length bytes)) old
left_first None bytes e = refl
left_first (Some left) bytes e = rw e refl

pub bytes_first : (old : Option (List ℕ)) (bytes : List ℕ) → bytes ≡ [] → IfSome old (λ left. take (length bytes) left ≡ bytes)
bytes_first None bytes e = tt
bytes_first (Some left) bytes e = rw e refl

pub room_first : (old : Option (List ℕ)) (bytes : List ℕ) → bytes ≡ [] → IfSome old (λ left. length bytes ≤ length left)
room_first None bytes e = tt
room_first (Some left) bytes e = rw e (omega arith)

pub counted_first : (a : ℕ) (bytes : List ℕ) → bytes ≡ [] → a ≡ counted a (length bytes)
counted_first a bytes e = rw e (omega arith)
