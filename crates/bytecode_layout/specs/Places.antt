-- The places of all numbers in a state's bytes, and the two laws of them: what is read at a place, and what a store there makes.
use Rattle.std.specs.Prelude.{◌≡◌, List, [], ◌∷◌, ◌++◌, ℕ, ◌+◌, ◌*◌, ◌<◌, get_or}
use Rattle.std.proofs.Math.Path.{refl}
use Rattle.std.proofs.Common.{ap, arith}
use Rattle.std.proofs.lemmas.List.Edits.{sets}
use Rattle.words.specs.Numbers.{half, word}
use Rattle.words.specs.Laws.{Size, one, two, four, number_at, bytes_of}
use Rattle.bytecode.specs.State.{pad, flat, zeros, header_bytes}
use Rattle.bytecode_layout.specs.Rows.{alter, alter-known, length-pad}
use Rattle.bytecode_layout.specs.Focus.{Focus, within, refocus, skip, before, here, nth, nth-byte, number-get, number-sets}
use Rattle.bytecode_layout.specs.Parts.{Frame, Entry, Parts, frame_bytes, entry_bytes, parts_bytes, no_frame, no_entry, wide_word, wide-frame, wide-entry, length-words, length-frames, length-header}

-- ── places in an activation ──
pub data InFrame : Type 0 where
  body depth open' address : InFrame
  cell_word operand_word cell_type operand_type : ℕ → InFrame  -- of a cell; of an operand, counted from the bottom

abbrev pub frame_offset : InFrame → ℕ
frame_offset body = 0
frame_offset depth = 1
frame_offset open' = 2
frame_offset address = 4
frame_offset (cell_word j) = 8 + 4 * j
frame_offset (operand_word n) = 136 + 4 * n
frame_offset (cell_type j) = 264 + j
frame_offset (operand_type n) = 296 + n

abbrev pub frame_size : InFrame → Size
frame_size body = one
frame_size depth = one
frame_size open' = one
frame_size address = two
frame_size (cell_word j) = four
frame_size (operand_word n) = four
frame_size (cell_type j) = one
frame_size (operand_type n) = one

abbrev pub FrameHas : InFrame → Type 0
FrameHas body = Unit {0}
FrameHas depth = Unit {0}
FrameHas open' = Unit {0}
FrameHas address = Unit {0}
FrameHas (cell_word j) = j < 32
FrameHas (operand_word n) = n < 32
FrameHas (cell_type j) = j < 32
FrameHas (operand_type n) = n < 32

abbrev pub frame_get : InFrame → Frame → ℕ
frame_get body a = a.body
frame_get depth a = a.depth
frame_get open' a = a.open'
frame_get address a = a.address
frame_get (cell_word j) a = get_or a.cell_words j 0
frame_get (operand_word n) a = get_or a.operand_words n 0
frame_get (cell_type j) a = get_or a.cell_types j 0
frame_get (operand_type n) a = get_or a.operand_types n 0

-- a number in a row
abbrev pub at : ℕ → ℕ → List ℕ → List ℕ
at k n row = alter 0 (λ (x : ℕ). n) row k

abbrev frame : ℕ → ℕ → ℕ → ℕ → List ℕ → List ℕ → List ℕ → List ℕ → Frame
frame b d o i cw ow ct ot = record { body = b; depth = d; open' = o; address = i; cell_words = cw; operand_words = ow; cell_types = ct; operand_types = ot }

abbrev pub frame_put : InFrame → ℕ → Frame → Frame
frame_put body n a = frame n a.depth a.open' a.address a.cell_words a.operand_words a.cell_types a.operand_types
frame_put depth n a = frame a.body n a.open' a.address a.cell_words a.operand_words a.cell_types a.operand_types
frame_put open' n a = frame a.body a.depth n a.address a.cell_words a.operand_words a.cell_types a.operand_types
frame_put address n a = frame a.body a.depth a.open' n a.cell_words a.operand_words a.cell_types a.operand_types
frame_put (cell_word j) n a = frame a.body a.depth a.open' a.address (at j n a.cell_words) a.operand_words a.cell_types a.operand_types
frame_put (operand_word j) n a = frame a.body a.depth a.open' a.address a.cell_words (at j n a.operand_words) a.cell_types a.operand_types
frame_put (cell_type j) n a = frame a.body a.depth a.open' a.address a.cell_words a.operand_words (at j n a.cell_types) a.operand_types
frame_put (operand_type j) n a = frame a.body a.depth a.open' a.address a.cell_words a.operand_words a.cell_types (at j n a.operand_types)

-- the rows; head_of is what stands before them
abbrev head_of : Frame → List ℕ
head_of a = (a.body ∷ a.depth ∷ a.open' ∷ 0 ∷ []) ++ (half a.address ++ (0 ∷ 0 ∷ []))

abbrev word_row : ℕ → List ℕ → List ℕ
word_row n ws = flat word (pad n 0 ws)

abbrev byte_row : ℕ → List ℕ → List ℕ
byte_row n bs = pad n 0 bs

abbrev pub with_cells : List ℕ → List ℕ → Frame → Frame
with_cells ws ts a = frame a.body a.depth a.open' a.address ws a.operand_words ts a.operand_types

abbrev with_operands : List ℕ → List ℕ → Frame → Frame
with_operands ws ts a = frame a.body a.depth a.open' a.address a.cell_words ws a.cell_types ts

module _ (a : Frame) where
  pub cell-words : Focus (word_row 32) (λ (ws : List ℕ). frame_bytes (with_cells ws a.cell_types a)) (frame_bytes a) a.cell_words 8
  unfolding frame_bytes
  cell-words = skip (head_of a) 8 refl (before _ (here a.cell_words))

  operand-words : Focus (word_row 32) (λ (ws : List ℕ). frame_bytes (with_operands ws a.operand_types a)) (frame_bytes a) a.operand_words 136
  unfolding frame_bytes
  operand-words = skip (head_of a) 8 refl (skip (word_row 32 a.cell_words) 128 (length-words 32 a.cell_words) (before _ (here a.operand_words)))

  pub cell-types : Focus (byte_row 32) (λ (ts : List ℕ). frame_bytes (with_cells a.cell_words ts a)) (frame_bytes a) a.cell_types 264
  unfolding frame_bytes
  cell-types =
      skip (head_of a) 8 refl (skip (word_row 32 a.cell_words) 128 (length-words 32 a.cell_words)
      (skip (word_row 32 a.operand_words) 128 (length-words 32 a.operand_words) (before _ (here a.cell_types))))

  operand-types : Focus (byte_row 32) (λ (ts : List ℕ). frame_bytes (with_operands a.operand_words ts a)) (frame_bytes a) a.operand_types 296
  unfolding frame_bytes
  operand-types =
      skip (head_of a) 8 refl (skip (word_row 32 a.cell_words) 128 (length-words 32 a.cell_words) (skip (word_row 32 a.operand_words) 128 (length-words 32 a.operand_words)
      (skip (byte_row 32 a.cell_types) 32 (length-pad 0 32 a.cell_types) (here a.operand_types))))

word_in : (n : ℕ) (ws : List ℕ) (k : ℕ) → k < n → Focus word (λ (w : ℕ). word_row n (at k w ws)) (word_row n ws) (get_or ws k 0) (4 * k)
word_in n ws k h = nth 0 word 4 wide_word n ws k h

frame-focus : (x : InFrame) → FrameHas x → (a : Frame) → Focus (bytes_of (frame_size x)) (λ (n : ℕ). frame_bytes (frame_put x n a)) (frame_bytes a) (frame_get x a) (frame_offset x)
unfolding frame_bytes
frame-focus body h a = record { pre = []; post = _; place = refl; split = λ n. refl; now = refl }
frame-focus depth h a = record { pre = a.body ∷ []; post = _; place = refl; split = λ n. refl; now = refl }
frame-focus open' h a = record { pre = a.body ∷ a.depth ∷ []; post = _; place = refl; split = λ n. refl; now = refl }
frame-focus address h a = record { pre = a.body ∷ a.depth ∷ a.open' ∷ 0 ∷ []; post = _; place = refl; split = λ n. refl; now = refl }
frame-focus (cell_word j) h a = within (λ (n : ℕ). at j n a.cell_words) (cell-words a) (word_in 32 a.cell_words j h)
frame-focus (operand_word j) h a = within (λ (n : ℕ). at j n a.operand_words) (operand-words a) (word_in 32 a.operand_words j h)
frame-focus (cell_type j) h a = within (λ (n : ℕ). at j n a.cell_types) (cell-types a) (nth-byte 32 a.cell_types j h)
frame-focus (operand_type j) h a = within (λ (n : ℕ). at j n a.operand_types) (operand-types a) (nth-byte 32 a.operand_types j h)

-- ── places in a record ──
pub data InEntry : Type 0 where
  class : InEntry
  field_word field_type : ℕ → InEntry

abbrev pub entry_offset : InEntry → ℕ
entry_offset class = 0
entry_offset (field_word j) = 4 + 4 * j
entry_offset (field_type j) = 36 + j

abbrev pub entry_size : InEntry → Size
entry_size class = one
entry_size (field_word j) = four
entry_size (field_type j) = one

abbrev pub EntryHas : InEntry → Type 0
EntryHas class = Unit {0}
EntryHas (field_word j) = j < 8
EntryHas (field_type j) = j < 8

abbrev pub entry_get : InEntry → Entry → ℕ
entry_get class r = r.class
entry_get (field_word j) r = get_or r.words j 0
entry_get (field_type j) r = get_or r.types j 0

abbrev pub entry_put : InEntry → ℕ → Entry → Entry
entry_put class n r = record { class = n; words = r.words; types = r.types }
entry_put (field_word j) n r = record { class = r.class; words = at j n r.words; types = r.types }
entry_put (field_type j) n r = record { class = r.class; words = r.words; types = at j n r.types }

entry-focus : (x : InEntry) → EntryHas x → (r : Entry) → Focus (bytes_of (entry_size x)) (λ (n : ℕ). entry_bytes (entry_put x n r)) (entry_bytes r) (entry_get x r) (entry_offset x)
unfolding entry_bytes
entry-focus class h r = record { pre = []; post = _; place = refl; split = λ n. refl; now = refl }
entry-focus (field_word j) h r = skip (r.class ∷ 0 ∷ 0 ∷ 0 ∷ []) 4 refl (before _ (word_in 8 r.words j h))
entry-focus (field_type j) h r =
    refocus (λ m. refl) (omega arith)
    (skip (r.class ∷ 0 ∷ 0 ∷ 0 ∷ []) 4 refl (skip (flat word (pad 8 0 r.words)) 32 (length-words 8 r.words) (nth-byte 8 r.types j h)))

-- ── places in a state ──
pub data Place : Type 0 where
  phase code activations records holds : Place
  group : ℕ → Place  -- of the hold stack, from the bottom
  in_frame : ℕ → InFrame → Place  -- of activation k, the root being 0
  in_entry : ℕ → InEntry → Place  -- of record r

abbrev pub frame_place : ℕ → ℕ
frame_place k = 32 + 328 * k

abbrev pub group_place : ℕ → ℕ
group_place k = 10528 + k

abbrev pub entry_place : ℕ → ℕ
entry_place r = 11040 + 44 * r

abbrev pub place_of : Place → ℕ
place_of phase = 0
place_of code = 1
place_of activations = 2
place_of records = 4
place_of holds = 6
place_of (group k) = group_place k
place_of (in_frame k x) = frame_place k + frame_offset x
place_of (in_entry r x) = entry_place r + entry_offset x

abbrev pub size_of : Place → Size
size_of phase = one
size_of code = one
size_of activations = one
size_of records = two
size_of holds = two
size_of (group k) = one
size_of (in_frame k x) = frame_size x
size_of (in_entry r x) = entry_size x

-- the place is one of the state's
abbrev pub There : Place → Type 0
There phase = Unit {0}
There code = Unit {0}
There activations = Unit {0}
There records = Unit {0}
There holds = Unit {0}
There (group k) = k < 512
There (in_frame k x) = (k < 32) × FrameHas x
There (in_entry r x) = (r < 256) × EntryHas x

abbrev pub get : Place → Parts → ℕ
get phase p = p.phase
get code p = p.code
get activations p = p.activations
get records p = p.records
get holds p = p.holds
get (group k) p = get_or p.groups k 0
get (in_frame k x) p = frame_get x (get_or p.frames k no_frame)
get (in_entry r x) p = entry_get x (get_or p.entries r no_entry)

-- the lists of a state exchanged
abbrev pub parts : ℕ → ℕ → ℕ → ℕ → ℕ → List Frame → List ℕ → List Entry → Parts
parts ph c a r h fs gs es = record { phase = ph; code = c; activations = a; records = r; holds = h; frames = fs; groups = gs; entries = es }

abbrev pub with_frames : List Frame → Parts → Parts
with_frames fs p = parts p.phase p.code p.activations p.records p.holds fs p.groups p.entries

abbrev pub with_groups : List ℕ → Parts → Parts
with_groups gs p = parts p.phase p.code p.activations p.records p.holds p.frames gs p.entries

abbrev pub with_entries : List Entry → Parts → Parts
with_entries es p = parts p.phase p.code p.activations p.records p.holds p.frames p.groups es

abbrev pub put : Place → ℕ → Parts → Parts
put phase n p = parts n p.code p.activations p.records p.holds p.frames p.groups p.entries
put code n p = parts p.phase n p.activations p.records p.holds p.frames p.groups p.entries
put activations n p = parts p.phase p.code n p.records p.holds p.frames p.groups p.entries
put records n p = parts p.phase p.code p.activations n p.holds p.frames p.groups p.entries
put holds n p = parts p.phase p.code p.activations p.records n p.frames p.groups p.entries
put (group k) n p = with_groups (at k n p.groups) p
put (in_frame k x) n p = with_frames (alter no_frame (frame_put x n) p.frames k) p
put (in_entry r x) n p = with_entries (alter no_entry (entry_put x n) p.entries r) p

abbrev header : Parts → List ℕ
header p = header_bytes p.phase p.code p.activations p.records p.holds

-- a focus in what stands behind the header
past : (p : Parts) {B : Type 0} {enc whole : B → List ℕ} {l : List ℕ} {b : B} {at : ℕ} → Focus enc whole l b at
    → Focus enc (λ (c : B). header p ++ whole c) (header p ++ l) b (32 + at)
past p f = skip (header p) 32 (length-header p.phase p.code p.activations p.records p.holds) f

-- all activations, all holds, all records; a whole activation, and a whole record
module _ (p : Parts) where
  pub frames-at : Focus (λ (fs : List Frame). flat frame_bytes (pad 32 no_frame fs)) (λ (fs : List Frame). parts_bytes (with_frames fs p)) (parts_bytes p) p.frames 32
  unfolding parts_bytes
  frames-at = past p (before (pad 512 0 p.groups ++ (flat entry_bytes (pad 256 no_entry p.entries) ++ zeros 2272)) (here p.frames))

  groups-at : Focus (byte_row 512) (λ (gs : List ℕ). parts_bytes (with_groups gs p)) (parts_bytes p) p.groups 10528
  unfolding parts_bytes
  groups-at = past p (skip (flat frame_bytes (pad 32 no_frame p.frames)) 10496 (length-frames p.frames) (before _ (here p.groups)))

  pub entries_at : Focus (λ (es : List Entry). flat entry_bytes (pad 256 no_entry es)) (λ (es : List Entry). parts_bytes (with_entries es p)) (parts_bytes p) p.entries 11040
  unfolding parts_bytes
  entries_at =
      past p (skip (flat frame_bytes (pad 32 no_frame p.frames)) 10496 (length-frames p.frames) (skip (pad 512 0 p.groups) 512 (length-pad 0 512 p.groups)
      (before (zeros 2272) (here p.entries))))

  pub frame_at : (k : ℕ) → k < 32
      → Focus frame_bytes (λ (a : Frame). parts_bytes (with_frames (alter no_frame (λ (x : Frame). a) p.frames k) p)) (parts_bytes p) (get_or p.frames k no_frame) (frame_place k)
  frame_at k h = within (λ (a : Frame). alter no_frame (λ (x : Frame). a) p.frames k) frames-at (nth no_frame frame_bytes 328 wide-frame 32 p.frames k h)

  entry-at : (r : ℕ) → r < 256
      → Focus entry_bytes (λ (e : Entry). parts_bytes (with_entries (alter no_entry (λ (x : Entry). e) p.entries r) p)) (parts_bytes p) (get_or p.entries r no_entry) (entry_place r)
  entry-at r h = within (λ (e : Entry). alter no_entry (λ (x : Entry). e) p.entries r) entries_at (nth no_entry entry_bytes 44 wide-entry 256 p.entries r h)

focus : (x : Place) → There x → (p : Parts) → Focus (bytes_of (size_of x)) (λ (n : ℕ). parts_bytes (put x n p)) (parts_bytes p) (get x p) (place_of x)
unfolding parts_bytes header_bytes
focus phase h p = record { pre = []; post = _; place = refl; split = λ n. refl; now = refl }
focus code h p = record { pre = p.phase ∷ []; post = _; place = refl; split = λ n. refl; now = refl }
focus activations h p = record { pre = p.phase ∷ p.code ∷ []; post = _; place = refl; split = λ n. refl; now = refl }
focus records h p = record { pre = p.phase ∷ p.code ∷ p.activations ∷ 0 ∷ []; post = _; place = refl; split = λ n. refl; now = refl }
focus holds h p = record { pre = (p.phase ∷ p.code ∷ p.activations ∷ 0 ∷ []) ++ half p.records; post = _; place = refl; split = λ n. refl; now = refl }
focus (group k) h p = within (λ (n : ℕ). at k n p.groups) (groups-at p) (nth-byte 512 p.groups k h)
focus (in_frame k x) h p =
    refocus (λ n. ap (λ (fs : List Frame). parts_bytes (with_frames fs p)) (alter-known no_frame (frame_put x n) p.frames k)) refl
    (within (λ (n : ℕ). frame_put x n (get_or p.frames k no_frame)) (frame_at p k h.0) (frame-focus x h.1 (get_or p.frames k no_frame)))
focus (in_entry r x) h p =
    refocus (λ n. ap (λ (es : List Entry). parts_bytes (with_entries es p)) (alter-known no_entry (entry_put x n) p.entries r)) refl
    (within (λ (n : ℕ). entry_put x n (get_or p.entries r no_entry)) (entry-at p r h.0) (entry-focus x h.1 (get_or p.entries r no_entry)))

-- ── the two laws ──
pub reads : (x : Place) → There x → (p : Parts) → number_at (size_of x) (parts_bytes p) (place_of x) ≡ get x p
reads x h p = number-get (size_of x) (focus x h p)

pub writes : (x : Place) → There x → (p : Parts) (n : ℕ) → sets (parts_bytes p) (place_of x) (bytes_of (size_of x) n) ≡ parts_bytes (put x n p)
writes x h p n = number-sets (size_of x) (focus x h p) n
