-- What is known of streams.
--   StreamReading                  == a reader: the bytes that it has yet to give, if they are known,
--                                     and whether a read of it has failed
--   StreamWriting                  == a writer: the bytes that it holds, if they are known, and
--                                     whether a write to it has failed
--   reading_anew left              == a reader that has this left to give, and no read of which has
--                                     failed
--   writing_anew held              == a writer that holds this, and no write to which has failed
--   AppendsFront old new told text == known bytes have grown by what was told, and by a front of the
--                                     text
use Rattle.std.specs.Prelude.{ℕ, Bool, false, ◌≤◌, List, ◌++◌, length, take, Option}
use Rattle.std.specs.Io.KnownBytes.{Appends}

pub record StreamReading : Type 0 where
  pub remaining : Option (List ℕ)
  pub has_failed : Bool

pub record StreamWriting : Type 0 where
  pub contents : Option (List ℕ)
  pub has_failed : Bool

abbrev pub reading_anew : Option (List ℕ) → StreamReading
reading_anew left = record { remaining = left; has_failed = false }

abbrev pub writing_anew : Option (List ℕ) → StreamWriting
writing_anew held = record { contents = held; has_failed = false }

abbrev pub AppendsFront : Option (List ℕ) → Option (List ℕ) → List ℕ → List ℕ → Type 0
AppendsFront old new told text = (k : ℕ) × (k ≤ length text) × Appends old new (told ++ take k text)
