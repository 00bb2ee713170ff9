use Rattle.std.proofs.Common.{◌≡◌, drop}
use Rattle.pf_source.specs.Told.{file_among}
use Rattle.pf_source.proofs.memory.find_file.Given as goal

-- no file so far has the name
abbrev pub invariant-loop-file : goal.invariant-loop-file
invariant-loop-file l = file_among (drop l.file-index l.files) l.name ≡ file_among l.files l.name
