-- Bytes have one fault at most, want of memory aside, and none where they are a table file.
--   file-one      one fault
--   file-none     no fault where there is a table
use Rattle.dg_file.proofs.Common.{◌≡◌, ◌≢◌, ℕ, List, refl, ap, Data, StartData, ReadsJson, IsNotJson, IsTableFile, IsShapeFault, HasContentFault, IsFileFault, Shape, FileFault, Json, Graph, Name, Twice, Chip, NoQ, OutOfMemory}
use Rattle.dg_file.specs.declared.fault.FileFault.TheVariants.{Shape as OfShape}
use Rattle.dg_file.proofs.OneContent.{none-found, same-value, same-content}
use Rattle.dg_file.proofs.OneShape.{shape-one, shape-none}
use Rattle.dg_file.proofs.OneTable.{table-one, table-none}

-- Why bytes are refused: no JSON, a shape, or a table.
data Cause (bytes : List ℕ) : FileFault → Type 0 where
  no_json : IsNotJson bytes → Cause bytes Json
  shape : (s : Shape) (value : Data) → ReadsJson bytes value → IsShapeFault value s → Cause bytes (OfShape s)
  table : (f : FileFault) → HasContentFault bytes f → Cause bytes f

cause : (bytes : List ℕ) (f : FileFault) → f ≢ OutOfMemory → IsFileFault bytes f → Cause bytes f
cause bytes Json known fault = no_json fault
cause bytes (OfShape s) known fault = shape s fault.0 fault.1 fault.2
cause bytes (Graph f) known fault = table (Graph f) fault
cause bytes (Name i) known fault = table (Name i) fault
cause bytes (Twice i) known fault = table (Twice i) fault
cause bytes (Chip f) known fault = table (Chip f) fault
cause bytes NoQ known fault = table NoQ fault
cause bytes OutOfMemory known fault = absurd (known refl)

module _ (bytes : List ℕ) where
  json-none : (value : Data) → ReadsJson bytes value → IsNotJson bytes → ⊥
  json-none value reads none = none-found _ value reads.1 (none reads.0)

  shape-table : (s : Shape) (value : Data) (f : FileFault) → ReadsJson bytes value → IsShapeFault value s
      → HasContentFault bytes f → ⊥
  shape-table s value f reads fault refused =
      let same : value ≡ refused.value = same-value bytes value refused.value reads refused.reads in
      shape-none refused.value refused.content refused.says s (rw same at fault)

  cause-one : (f h : FileFault) → Cause bytes f → Cause bytes h → f ≡ h
  cause-one f h (no_json a) (no_json b) = refl
  cause-one f h (no_json a) (shape t v reads b) = absurd (json-none v reads a)
  cause-one f h (no_json a) (table g b) = absurd (json-none b.value b.reads a)
  cause-one f h (shape s u reads a) (no_json b) = absurd (json-none u reads b)
  cause-one f h (shape s u reads_u a) (shape t v reads_v b) =
      let same : u ≡ v = same-value bytes u v reads_u reads_v in
      ap OfShape (shape-one v s t (rw same at a) b)
  cause-one f h (shape s u reads a) (table g b) = absurd (shape-table s u g reads a b)
  cause-one f h (table g a) (no_json b) = absurd (json-none a.value a.reads b)
  cause-one f h (table g a) (shape t v reads b) = absurd (shape-table t v g reads b a)
  cause-one f h (table g a) (table k b) =
      let value : a.value ≡ b.value = same-value bytes a.value b.value a.reads b.reads in
      let content : a.content ≡ b.content = same-content b.value a.content b.content (rw value at a.says) b.says in
      table-one b.content g k (rw content at a.refused) b.refused

  cause-none : (f : FileFault) (o : StartData) (names : List (List ℕ)) → Cause bytes f → IsTableFile bytes o names → ⊥
  cause-none f o names (no_json a) file = json-none file.value file.reads a
  cause-none f o names (shape s u reads a) file =
      let same : u ≡ file.value = same-value bytes u file.value reads file.reads in
      shape-none file.value file.content file.says s (rw same at a)
  cause-none f o names (table g a) file =
      let value : a.value ≡ file.value = same-value bytes a.value file.value a.reads file.reads in
      let content : a.content ≡ file.content =
      same-content file.value a.content file.content (rw value at a.says) file.says in
      table-none file.content o names file.describes g (rw content at a.refused)

pub file-one : (bytes : List ℕ) (one other : FileFault) → one ≢ OutOfMemory → other ≢ OutOfMemory
    → IsFileFault bytes one → IsFileFault bytes other → one ≡ other
file-one bytes one other known_one known_other a b =
    cause-one bytes one other (cause bytes one known_one a) (cause bytes other known_other b)

pub file-none : (bytes : List ℕ) (fault : FileFault) (o : StartData) (names : List (List ℕ)) → fault ≢ OutOfMemory
    → IsFileFault bytes fault → ¬ IsTableFile bytes o names
file-none bytes fault o names known refused file = cause-none bytes fault o names (cause bytes fault known refused) file
