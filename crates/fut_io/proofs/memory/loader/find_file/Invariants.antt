use Rattle.std.proofs.Common.{◌≡◌, drop}
use Rattle.fut_io.specs.Outside.{file_at}
use Rattle.fut_io.proofs.memory.loader.find_file.Given as goal

abbrev pub invariant-loop-file : goal.invariant-loop-file
invariant-loop-file l = file_at (drop l.file-index l.files) l.name ≡ file_at l.files l.name
