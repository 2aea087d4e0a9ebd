-- What is proved of the 24,576 bytes of a run state. (docs/STATE.md; the definitions are encode, decode and sound_state of bytecode)
use Rattle.std.specs.Prelude.{◌≡◌, true, List, ℕ, eqb, length}
use Rattle.std.proofs.Math.Option.{some}
use Rattle.std.proofs.lemmas.List.Edits.{sets}
use Rattle.std.proofs.Common.{eqb-true, eq-eqb}
use Rattle.logic.specs.Options.{keep}
use Rattle.words.specs.Laws.{Bytes, number_at, bytes_of}
use Rattle.bytecode.specs.Macro.{Macro}
use Rattle.bytecode.specs.Machine.{Machine}
use Rattle.bytecode.specs.Sound.{sound}
use Rattle.bytecode.specs.State.{state_length, encode, decode}
use Rattle.bytecode.specs.Lent.{only_sound, sound_state}
use Rattle.logic.specs.OptionLaws.{chosen, kept, same_some}
use Rattle.bytecode_layout.specs.Sized.{Sized}
use Rattle.bytecode_layout.specs.Parts.{Parts, parts_bytes, parts_of}
use Rattle.bytecode_layout.specs.Places.{Place, place_of, size_of, There, get, put}
use Rattle.bytecode_layout.specs.Cleared.{cleared}
use Rattle.bytecode_layout.specs.Parts
use Rattle.bytecode_layout.specs.Places
use Rattle.bytecode_layout.specs.Bytes
use Rattle.bytecode_layout.specs.Decode
use Rattle.bytecode_layout.specs.Whole

-- 1. Every state is written into 24,576 numbers.
pub length-encode : (s : Machine) → length (encode s) ≡ state_length
length-encode s = Parts.length-encode s

-- A macro is Sized (Sized.antt) if it keeps to the limits of the paper and its types name classes that are there: in the classes, in the
-- bodies' cells, and in the state found at each address of a body, which has at most 32 operands and 16 holds. That those found name
-- classes follows from the classes, the bodies and the shapes: sized-by (Found.antt).
module _ (m : Macro) (sized : Sized m) where
  -- 2. A sound state is read back from its encoding.
  pub decode-encode : (s : Machine) → sound m s ≡ true → decode m (encode s) ≡ some s
  decode-encode s h = Decode.decode-encode m sized s h

  pub sound_state-encode : (s : Machine) → sound m s ≡ true → sound_state m (encode s) ≡ some s
  unfolding sound_state
  sound_state-encode s h = rw (eq-eqb (length (encode s)) state_length (length-encode s), decode-encode s h, h)

  -- 3. The numbers of its encoding are bytes.
  pub bytes-encode : (s : Machine) → sound m s ≡ true → Bytes (encode s)
  bytes-encode s h = Bytes.bytes m sized s h

  -- 4. Bytes that hold a state, with all that it does not use made 0, are its encoding; `cleared` (Cleared.antt) says which runs of
  -- bytes are made 0, in order, by the bytes alone.
  pub cleared-decoded : (l : List ℕ) → Bytes l → length l ≡ state_length → (s : Machine) → decode m l ≡ some s → cleared m l ≡ encode s
  cleared-decoded l b n s e = Whole.normal m (λ c ts i. (sized.classes c ts i).0) l n b s e

  pub cleared-sound : (l : List ℕ) → Bytes l → (s : Machine) → sound_state m l ≡ some s → (cleared m l ≡ encode s) × (sound m s ≡ true)
  unfolding sound_state
  cleared-sound l b s e =
      let a = chosen (eqb (length l) state_length) (keep (decode m l) (only_sound m)) s e in
      let d = kept (decode m l) (only_sound m) s a.1 in
      let t = chosen (sound m d.0) (some d.0) s d.2 in
      rw (← same_some t.1) (cleared-decoded l b (eqb-true (length l) state_length a.0) d.0 d.1, t.0)

-- 5. A state's bytes are those of its parts (Parts.antt), and of any parts: what is read at each place, and what a store there makes.
pub encode-parts : (s : Machine) → encode s ≡ parts_bytes (parts_of s)
encode-parts s = Parts.encode-parts s

pub reads : (x : Place) → There x → (p : Parts) → number_at (size_of x) (parts_bytes p) (place_of x) ≡ get x p
reads x h p = Places.reads x h p

pub writes : (x : Place) → There x → (p : Parts) (n : ℕ) → sets (parts_bytes p) (place_of x) (bytes_of (size_of x) n) ≡ parts_bytes (put x n p)
writes x h p n = Places.writes x h p n

-- From these two come the laws for machine states, at an activation with some above it and some below it (`on`):
--   read (Reads.antt): on-reads, root-reads, record-reads; operand-is, cell-is, value-is, blank-is, group-is
--   within an activation (Steps.antt): goes-law, push-law, pop-law, operand-law, cell-law, cell-next-law, cell-last-law; and for other
--     stores edit-law, raw-law (Edits.antt)
--   holds, entering, leaving (Steps.antt, Leaves.antt): take-law, let-law, enter-law, leave-law, drop-law, no-cells-law
--   records, the root's cells (Records.antt): make-law, field-next-law, field-law, root-cell-law
--   beginning, conditions, ends (Phases.antt): begin-law, condition-law, end-law, release-law, finish-law
