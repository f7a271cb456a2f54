-- Replies that wait to be written.
use Rattle.std.specs.Prelude.{◌≡◌, ◌≤◌, ℕ, List, [], ◌++◌, Option, vec_capacity}
use Rattle.std.specs.Io.KnownBytes.{Appends}
use Rattle.adr_script.specs.Begun.{Holds}
use Rattle.adr_script.specs.declared.answering.Session.{Session}

-- no line has begun, and no reply waits
abbrev pub IsFresh : Session → Type 0
IsFresh session = Holds session.begun [] × (64 ≤ vec_capacity session.reply) × (session.waiting.bytes.items ≡ [])

-- Behind what waited comes a reply. A front of the two is written, and the rest of them waits.
abbrev pub Sends : Option (List ℕ) → Option (List ℕ) → List ℕ → List ℕ → List ℕ → Type 0
Sends held_old held_new waiting_old waiting_new reply =
    (written : List ℕ) × (waiting_old ++ reply ≡ written ++ waiting_new) × Appends held_old held_new written
