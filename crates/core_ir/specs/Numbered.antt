-- New names only go upward: each that is bound is above all that were bound before it, in blocks inside too. So a name is bound
-- once in the whole Core.
use Rattle.std.specs.Prelude.{ℕ, suc, ◌≤◌, List, map}
use Rattle.fut_blocks.specs.Numbered.{Upward}
use Rattle.core_ir.specs.declared.block.Var.{Var}
use Rattle.core_ir.specs.Meaning.{number}
use Rattle.core_ir.specs.Plain.{Action, Operate, Do, Map, Filter, Partition, Reduce, Scan, Scatter, Hist, If, For, For_in, While, Function, Of_two, Body, Give, Let}

-- the names of these variables rise from `n` on, and lie below `m`
abbrev pub Rise : ℕ → List Var → ℕ → Type 0
Rise n xs m = Upward n (map number xs) m

-- all names that are bound inside rise from `n` on, and lie below `m`
unfoldable mutual
  pub Act_numbered : ℕ → Action → ℕ → Type 0
  Act_numbered n (Operate o at) m = n ≤ m
  Act_numbered n (Do d at uss) m = n ≤ m
  Act_numbered n (Map at source told xs b) m = (k : ℕ) × Rise n xs k × Body_numbered k b m
  Act_numbered n (Filter at r xs b) m = (k : ℕ) × Rise n xs k × Body_numbered k b m
  Act_numbered n (Partition at r xs b) m = (k : ℕ) × Rise n xs k × Body_numbered k b m
  Act_numbered n (Reduce at us r f) m = Function_numbered n f m
  Act_numbered n (Scan at us r f) m = Function_numbered n f m
  Act_numbered n (Scatter at us i ws) m = n ≤ m
  Act_numbered n (Hist at us zs i r f) m = Function_numbered n f m
  Act_numbered n (If c a b) m = (k : ℕ) × Body_numbered n a k × Body_numbered k b m
  Act_numbered n (For xs us i c b) m = (k : ℕ) × Rise n xs k × (k ≤ i.number) × Body_numbered (suc i.number) b m
  Act_numbered n (For_in at xs us ys r b) m = (k : ℕ) × Rise n xs k × (l : ℕ) × Rise k ys l × Body_numbered l b m
  Act_numbered n (While at xs us t b) m = (k : ℕ) × Rise n xs k × (l : ℕ) × Body_numbered k t l × Body_numbered l b m

  pub Function_numbered : ℕ → Function → ℕ → Type 0
  Function_numbered n (Of_two xs ys b) m = (k : ℕ) × Rise n xs k × (l : ℕ) × Rise k ys l × Body_numbered l b m

  pub Body_numbered : ℕ → Body → ℕ → Type 0
  Body_numbered n (Give us) m = n ≤ m
  Body_numbered n (Let xs a b) m = (k : ℕ) × Act_numbered n a k × (l : ℕ) × Rise k xs l × Body_numbered l b m
