-- What a source, a sink and a loader tell of themselves, and what each answer of a call says of what they told
-- before and tell after it. Content that is None is not told, and then stays untold.
use Rattle.std.specs.Prelude.{◌≡◌, ◌+◌, ◌<◌, ◌≤◌, ◌++◌, ℕ, List, [], ◌∷◌, length, take, drop, Option, Some, None, IfSome, IsSomeAnd, option_map, cond}
use Rattle.std.specs.Str.{bytes_eq}
use Rattle.fut_io.specs.Counts.{counted, Rose, RoseBy}

pub record SourceSeen : Type 0 where
  -- the bytes not yet given
  pub left : Option (List ℕ)
  -- how many bytes were given
  pub taken : ℕ
  pub faults : ℕ

pub record SinkSeen : Type 0 where
  -- the bytes taken so far
  pub held : Option (List ℕ)
  pub faults : ℕ

pub record LoaderSeen : Type 0 where
  -- names with their texts
  pub files : Option (List (List ℕ × List ℕ))
  pub faults : ℕ
  -- how many loads met too long a file
  pub overs : ℕ
  -- the name of the last load that failed or met too long a file
  pub lost : Option (List ℕ)

-- the text of a name: that of the first entry with it
abbrev pub file_at : List (List ℕ × List ℕ) → List ℕ → Option (List ℕ)
file_at [] name = None
file_at (file ∷ files) name = cond (bytes_eq file.0 name) (Some file.1) (file_at files name)

-- the first k bytes were given, and stand in front of `into`
pub record Gave (old new : SourceSeen) (into : List ℕ) (k : ℕ) : Type 0 where
  pub within : k ≤ length into
  pub bytes : IfSome old.left (λ left. take k left ≡ take k into)
  pub held : IfSome old.left (λ left. k ≤ length left)
  pub left : new.left ≡ option_map (drop k) old.left
  pub taken : new.taken ≡ counted old.taken k
  pub faults : new.faults ≡ old.faults

-- a fault was counted, and nothing else changed
pub record SourceFailed (old new : SourceSeen) : Type 0 where
  pub faults : Rose old.faults new.faults
  pub left : new.left ≡ old.left
  pub taken : new.taken ≡ old.taken

-- some of what was left was given, and no count fell
pub record ReadPart (old new : SourceSeen) : Type 0 where
  pub count : ℕ
  pub held : IfSome old.left (λ left. count ≤ length left)
  pub left : new.left ≡ option_map (drop count) old.left
  pub taken : new.taken ≡ counted old.taken count
  pub faults : old.faults ≤ new.faults

-- these bytes were taken
pub record Took (old new : SinkSeen) (bytes : List ℕ) : Type 0 where
  pub held : new.held ≡ option_map (λ held. held ++ bytes) old.held
  pub faults : new.faults ≡ old.faults

-- a fault was counted, and nothing was taken
pub record SinkFailed (old new : SinkSeen) : Type 0 where
  pub faults : Rose old.faults new.faults
  pub held : new.held ≡ old.held

-- a fault was counted, after a prefix of the bytes was taken
pub record TookPart (old new : SinkSeen) (bytes : List ℕ) : Type 0 where
  pub part : (k : ℕ) × (k ≤ length bytes) × (new.held ≡ option_map (λ held. held ++ take k bytes) old.held)
  pub faults : Rose old.faults new.faults

-- the load of this name failed
pub record LoadFailed (old new : LoaderSeen) (name : List ℕ) : Type 0 where
  pub faults : Rose old.faults new.faults
  pub files : new.files ≡ old.files
  pub overs : new.overs ≡ old.overs
  pub lost : new.lost ≡ Some name

-- the load of this name met too long a file
pub record LoadOver (old new : LoaderSeen) (name : List ℕ) : Type 0 where
  pub overs : Rose old.overs new.overs
  pub files : new.files ≡ old.files
  pub faults : new.faults ≡ old.faults
  pub lost : new.lost ≡ Some name
  pub long : IfSome old.files (λ files. IsSomeAnd (file_at files name) (λ text. 4194304 < length text))

-- the name has this text
pub record Loaded (old new : LoaderSeen) (name text : List ℕ) : Type 0 where
  pub file : IfSome old.files (λ files. file_at files name ≡ Some text)
  pub short : length text ≤ 4194304
  pub same : new ≡ old

-- all that was left was given
pub record AllRead (old new : SourceSeen) (bytes : List ℕ) : Type 0 where
  pub all : IfSome old.left (λ left. bytes ≡ left)
  pub end : new.left ≡ option_map (λ _. []) old.left
  pub taken : new.taken ≡ counted old.taken (length bytes)
  pub faults : new.faults ≡ old.faults

-- more than `most` bytes were given, of more than so many
pub record ReadPast (old new : SourceSeen) (most : ℕ) : Type 0 where
  pub taken : RoseBy (most + 1) old.taken new.taken
  pub long : IfSome old.left (λ left. most < length left)
  pub faults : new.faults ≡ old.faults
