-- A state as it is laid out: numbers and rows of numbers only, each count apart from the list that it counts, so that a single store
-- leads from one such state to another. A machine state's parts, and that their bytes are its encoding, 24,576 of them.
use Rattle.std.specs.Prelude.{◌≡◌, refl, List, [], ◌∷◌, ◌++◌, reverse, map, ℕ, ◌*◌, length}
use Rattle.std.proofs.Common.{◌∙◌, length-append}
use Rattle.std.proofs.lemmas.List.{length-replicate}
use Rattle.bytecode.specs.Words.{value_word}
use Rattle.words.specs.Numbers.{half, word}
use Rattle.bytecode.specs.Machine.{Activation, Made, end_by, Machine, running, unwinding, ended, all_holds}
use Rattle.bytecode.specs.State.{pad, flat, zeros, type_byte, word_of_cell, byte_of_cell, activation_bytes, record_bytes, header_bytes, state_bytes, encode}
use Rattle.bytecode_layout.specs.Rows.{length-pad, pad-pad, length-flat, flat_map}

-- an activation; the rows have 32 numbers, operands from the bottom
pub record Frame : Type 0 where
  pub body : ℕ
  pub depth : ℕ
  pub open' : ℕ
  pub address : ℕ
  pub cell_words : List ℕ
  pub operand_words : List ℕ
  pub cell_types : List ℕ
  pub operand_types : List ℕ

-- a record; the rows have 8 numbers
pub record Entry : Type 0 where
  pub class : ℕ
  pub words : List ℕ
  pub types : List ℕ

-- a state: 32 activations, the root first; 512 holds, the first taken first; 256 records
pub record Parts : Type 0 where
  pub phase : ℕ
  pub code : ℕ
  pub activations : ℕ
  pub records : ℕ
  pub holds : ℕ
  pub frames : List Frame
  pub groups : List ℕ
  pub entries : List Entry

-- ── their bytes ──
unfoldable pub frame_bytes : Frame → List ℕ
frame_bytes a =
    (a.body ∷ a.depth ∷ a.open' ∷ 0 ∷ [])
    ++ (half a.address ++ ((0 ∷ 0 ∷ []) ++ (flat word (pad 32 0 a.cell_words) ++ (flat word (pad 32 0 a.operand_words)
    ++ (pad 32 0 a.cell_types ++ pad 32 0 a.operand_types)))))

unfoldable pub entry_bytes : Entry → List ℕ
entry_bytes r = (r.class ∷ 0 ∷ 0 ∷ 0 ∷ []) ++ (flat word (pad 8 0 r.words) ++ pad 8 0 r.types)

-- what is not in use
abbrev pub no_frame : Frame
no_frame = record {
  body = 0;
  depth = 0;
  open' = 0;
  address = 0;
  cell_words = pad 32 0 [];
  operand_words = pad 32 0 [];
  cell_types = pad 32 0 [];
  operand_types = pad 32 0 [];
}

abbrev pub no_entry : Entry
no_entry = record { class = 0; words = pad 8 0 []; types = pad 8 0 [] }

unfoldable pub parts_bytes : Parts → List ℕ
parts_bytes p =
    header_bytes p.phase p.code p.activations p.records p.holds
    ++ (flat frame_bytes (pad 32 no_frame p.frames) ++ (pad 512 0 p.groups ++ (flat entry_bytes (pad 256 no_entry p.entries) ++ zeros 2272)))

-- ── the parts of a machine state ──
abbrev pub frame_of : Activation → Frame
frame_of f = record {
  body = f.body;
  depth = length f.operands;
  open' = length f.holds;
  address = f.address;
  cell_words = pad 32 0 (map word_of_cell f.cells);
  operand_words = pad 32 0 (map value_word (reverse f.operands));
  cell_types = pad 32 0 (map byte_of_cell f.cells);
  operand_types = pad 32 0 (map type_byte (reverse f.operands));
}

abbrev pub entry_of : Made → Entry
entry_of r = record { class = r.class; words = pad 8 0 (map value_word r.fields); types = pad 8 0 (map type_byte r.fields) }

abbrev pub frames_of : List Activation → List Frame
frames_of fs = pad 32 no_frame (map frame_of (reverse fs))

abbrev pub groups_of : List ℕ → List ℕ
groups_of gs = pad 512 0 (reverse gs)

abbrev pub entries_of : List Made → List Entry
entries_of rs = pad 256 no_entry (map entry_of rs)

abbrev pub parts_of : Machine → Parts
parts_of (running s f fs) = record {
  phase = 0;
  code = 0;
  activations = length (f ∷ fs);
  records = length s.records;
  holds = length (all_holds (f ∷ fs));
  frames = frames_of (f ∷ fs);
  groups = groups_of (all_holds (f ∷ fs));
  entries = entries_of s.records;
}
parts_of (unwinding gs (end_by c)) =
    record { phase = 1; code = c; activations = 0; records = 0; holds = length gs; frames = frames_of []; groups = groups_of gs; entries = entries_of [] }
parts_of (ended c) =
    record { phase = 2; code = c; activations = 0; records = 0; holds = 0; frames = frames_of []; groups = groups_of []; entries = entries_of [] }

pub frame_is : (f : Activation) → activation_bytes f ≡ frame_bytes (frame_of f)
unfolding activation_bytes frame_bytes
frame_is f = simp pad-pad

pub entry-is : (r : Made) → record_bytes r ≡ entry_bytes (entry_of r)
unfolding record_bytes entry_bytes
entry-is r = simp pad-pad

frames-are : (fs : List Activation) → map activation_bytes fs ≡ map frame_bytes (map frame_of fs)
frames-are [] = refl
frames-are (f ∷ fs) = rw (frame_is f, frames-are fs)

entries-are : (rs : List Made) → map record_bytes rs ≡ map entry_bytes (map entry_of rs)
entries-are [] = refl
entries-are (r ∷ rs) = rw (entry-is r, entries-are rs)

pub blank-frame : zeros 328 ≡ frame_bytes no_frame
unfolding zeros frame_bytes flat pad
blank-frame = refl

pub blank-entry : zeros 44 ≡ entry_bytes no_entry
unfolding zeros entry_bytes flat pad
blank-entry = refl

state-is : (h : List ℕ) (fs : List Activation) (gs : List ℕ) (rs : List Made)
    → state_bytes h (map activation_bytes (reverse fs)) (reverse gs) (map record_bytes rs)
    ≡ h ++ (flat frame_bytes (pad 32 no_frame (frames_of fs)) ++ (pad 512 0 (groups_of gs) ++ (flat entry_bytes (pad 256 no_entry (entries_of rs)) ++ zeros 2272)))
unfolding state_bytes
state-is h fs gs rs =
    rw (
      frames-are (reverse fs),
      entries-are rs,
      blank-frame,
      blank-entry,
      flat_map frame_bytes 32 no_frame (map frame_of (reverse fs)),
      flat_map entry_bytes 256 no_entry (map entry_of rs),
      pad-pad no_frame 32 (map frame_of (reverse fs)),
      pad-pad 0 512 (reverse gs),
      pad-pad no_entry 256 (map entry_of rs),
    )

pub encode-parts : (s : Machine) → encode s ≡ parts_bytes (parts_of s)
unfolding encode parts_bytes
encode-parts (running s f fs) = state-is _ (f ∷ fs) (all_holds (f ∷ fs)) s.records
encode-parts (unwinding gs (end_by c)) = state-is _ [] gs []
encode-parts (ended c) = state-is _ [] [] []

-- ── lengths ──
pub wide_word : (n : ℕ) → length (word n) ≡ 4
wide_word n = refl

pub length-words : (n : ℕ) (ws : List ℕ) → length (flat word (pad n 0 ws)) ≡ n * 4
length-words n ws = length-flat word 4 wide_word (pad n 0 ws) ∙ rw (length-pad 0 n ws)

pub wide-frame : (a : Frame) → length (frame_bytes a) ≡ 328
unfolding frame_bytes
wide-frame a = simp (length-append, length-words, length-pad)

pub wide-entry : (r : Entry) → length (entry_bytes r) ≡ 44
unfolding entry_bytes
wide-entry r = simp (length-append, length-words, length-pad)

pub length-frames : (fs : List Frame) → length (flat frame_bytes (pad 32 no_frame fs)) ≡ 10496
length-frames fs = length-flat frame_bytes 328 wide-frame (pad 32 no_frame fs) ∙ rw (length-pad no_frame 32 fs)

pub length-entries : (rs : List Entry) → length (flat entry_bytes (pad 256 no_entry rs)) ≡ 11264
length-entries rs = length-flat entry_bytes 44 wide-entry (pad 256 no_entry rs) ∙ rw (length-pad no_entry 256 rs)

pub length-zeros : (n : ℕ) → length (zeros n) ≡ n
unfolding zeros
length-zeros n = length-replicate n 0

pub length-header : (p c a r h : ℕ) → length (header_bytes p c a r h) ≡ 32
unfolding header_bytes
length-header p c a r h = simp length-zeros

pub length-parts : (p : Parts) → length (parts_bytes p) ≡ 24576
unfolding parts_bytes
length-parts p = simp (length-append, length-header, length-frames, length-pad, length-entries, length-zeros)

pub length-encode : (s : Machine) → length (encode s) ≡ 24576
length-encode s = rw (encode-parts s) (length-parts (parts_of s))
