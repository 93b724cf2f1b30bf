-- A law of table files.
--   HasMeaning bytes    == the bytes describe a table, or there is a fault for which they are refused,
--                          want of memory aside
--   FileMeaningIsUnique == bytes that describe a table have no such fault and describe no other table,
--                          and no bytes have two such faults
use Rattle.std.specs.Prelude.{◌≡◌, ◌≢◌, ◌⊎◌, ℕ, List}
use Rattle.dg_chips.specs.Starts.{StartData}
use Rattle.dg_file.specs.TableFiles.{IsTableFile}
use Rattle.dg_file.specs.FileFaults.{IsFileFault}
use Rattle.dg_file.specs.declared.fault.FileFault.{FileFault}
use Rattle.dg_file.specs.declared.fault.FileFault.TheVariants.{OutOfMemory}

abbrev pub HasMeaning : List ℕ → Type 0
HasMeaning bytes = ((o : StartData) × (names : List (List ℕ)) × IsTableFile bytes o names)
    ⊎ ((fault : FileFault) × (fault ≢ OutOfMemory) × IsFileFault bytes fault)

pub record FileMeaningIsUnique : Type 0 where
  pub table : (bytes : List ℕ) (o p : StartData) (names others : List (List ℕ))
      → IsTableFile bytes o names → IsTableFile bytes p others → (o ≡ p) × (names ≡ others)
  pub refused : (bytes : List ℕ) (fault : FileFault) (o : StartData) (names : List (List ℕ))
      → fault ≢ OutOfMemory → IsFileFault bytes fault → ¬ IsTableFile bytes o names
  pub fault : (bytes : List ℕ) (one other : FileFault)
      → one ≢ OutOfMemory → other ≢ OutOfMemory → IsFileFault bytes one → IsFileFault bytes other
      → one ≡ other
