use Rattle.dg_system.proofs.Common.{length}
use Rattle.dg_system.proofs.sources.+find_file.Given as goal

-- proposed from what the function passes where it calls itself
abbrev pub decreases-find_file : goal.decreases-find_file
decreases-find_file l = length l.files.now
