-- What the definition says of small files.
use Rattle.std.specs.Prelude.{◌≡◌, codes, true, [], ◌∷◌, Err}
use Rattle.elab_scopes.specs.Names.{Twice, Unbound, NoMember, SealMissing}
use Rattle.elab_scopes.specs.Declarations.{declared_by}
use Rattle.module_examples.specs.Files.{accepted, applied, block, function, import_dec, include_spec, line, local_dec, members, module_dec, mtype_dec, named, one_file, open_dec, path, sealed_dec, two_files, type_spec}

-- `module m = {}`, and again
abbrev pub ModuleTwice : Type 0
ModuleTwice = declared_by 6 (one_file (module_dec 1 (codes "m") (block 1 []) ∷ module_dec 2 (codes "m") (block 2 []) ∷ [])) ≡ Err (Twice (codes "m") (line 2))

-- but where the first is local
abbrev pub LocalAgain : Type 0
LocalAgain = accepted (one_file (local_dec 1 (codes "m") (block 1 []) ∷ module_dec 2 (codes "m") (block 2 []) ∷ [])) ≡ true

-- `module m = {}`, `open m.n`
abbrev pub NoSuchMember : Type 0
NoSuchMember = declared_by 6 (one_file (module_dec 1 (codes "m") (block 1 []) ∷ open_dec 2 (path 2 (codes "m" ∷ codes "n" ∷ [])) ∷ [])) ≡ Err (NoMember (codes "n") (line 2))

-- `module m = { module n = {} }`, `open m.n`
abbrev pub MemberOpened : Type 0
MemberOpened = accepted (one_file (module_dec 1 (codes "m") (block 1 (module_dec 1 (codes "n") (block 1 []) ∷ [])) ∷ open_dec 2 (path 2 (codes "m" ∷ codes "n" ∷ [])) ∷ [])) ≡ true

-- `open m` of no module m
abbrev pub UnboundModule : Type 0
UnboundModule = declared_by 6 (one_file (open_dec 1 (path 1 (codes "m" ∷ [])) ∷ [])) ≡ Err (Unbound (codes "m") (line 1))

-- `module type s = { type t }`, `module m: s = {}`
abbrev pub SealLacksMember : Type 0
SealLacksMember = declared_by 6 (one_file (mtype_dec 1 (codes "s") (members 1 (type_spec 1 (codes "t") ∷ [])) ∷ sealed_dec 2 (codes "m") (named 2 (codes "s" ∷ [])) (block 2 []) ∷ [])) ≡ Err (SealMissing (codes "t") (line 1))

-- the same by `module m: { include s } = {}`
abbrev pub IncludedLacksMember : Type 0
IncludedLacksMember = declared_by 6 (one_file (mtype_dec 1 (codes "s") (members 1 (type_spec 1 (codes "t") ∷ [])) ∷ sealed_dec 2 (codes "m") (members 2 (include_spec 2 (named 2 (codes "s" ∷ [])) ∷ [])) (block 2 []) ∷ [])) ≡ Err (SealMissing (codes "t") (line 1))

-- `module type s = {}`, `module m: s = {}`
abbrev pub EmptySeal : Type 0
EmptySeal = accepted (one_file (mtype_dec 1 (codes "s") (members 1 []) ∷ sealed_dec 2 (codes "m") (named 2 (codes "s" ∷ [])) (block 2 []) ∷ [])) ≡ true

-- `module f = \(x: {}) -> { module n = {} }`, `module a = f {}`, `open a.n`
abbrev pub Applied : Type 0
Applied = accepted (one_file (module_dec 1 (codes "f") (function 1 (codes "x") (members 1 []) (block 1 (module_dec 1 (codes "n") (block 1 []) ∷ []))) ∷ module_dec 2 (codes "a") (applied 2 (path 2 (codes "f" ∷ [])) (block 2 [])) ∷ open_dec 3 (path 3 (codes "a" ∷ codes "n" ∷ [])) ∷ [])) ≡ true

-- `module m = {}`, `module a = m {}`
abbrev pub NotParametric : Type 0
NotParametric = declared_by 6 (one_file (module_dec 1 (codes "m") (block 1 []) ∷ module_dec 2 (codes "a") (applied 2 (path 2 (codes "m" ∷ [])) (block 2 [])) ∷ [])) ≡ Err (Unbound (codes "m") (line 2))

-- `module f = \(x: {}) -> {}`, `open f`
abbrev pub OpenedParametric : Type 0
OpenedParametric = declared_by 6 (one_file (module_dec 1 (codes "f") (function 1 (codes "x") (members 1 []) (block 1 [])) ∷ open_dec 2 (path 2 (codes "f" ∷ [])) ∷ [])) ≡ Err (Unbound (codes "f") (line 2))

-- a body that is never applied is looked at for names: `module f = \(x: {}) -> { open x.n }`
abbrev pub BodyLookedAt : Type 0
BodyLookedAt = declared_by 6 (one_file (module_dec 1 (codes "f") (function 1 (codes "x") (members 1 []) (block 2 (open_dec 2 (path 2 (codes "x" ∷ codes "n" ∷ [])) ∷ []))) ∷ [])) ≡ Err (NoMember (codes "n") (line 2))

-- `import "a"`, `open m`, where a.fut has `module m = {}`
abbrev pub Imported : Type 0
Imported = accepted (two_files (import_dec 1 (codes "a") ∷ open_dec 2 (path 2 (codes "m" ∷ [])) ∷ []) (module_dec 1 (codes "m") (block 1 []) ∷ [])) ≡ true

-- `import "b"` of no such file
abbrev pub NoSuchFile : Type 0
NoSuchFile = declared_by 6 (two_files (import_dec 1 (codes "b") ∷ []) []) ≡ Err (Unbound (codes "b") (line 1))
