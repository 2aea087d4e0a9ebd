-- The bytes hold a running state, in which an activation stands at f: what is read there, and what each store makes of the state.
-- A value v stands as its word w and its type byte t.
use Rattle.std.specs.Prelude.{◌≡◌, List, [], ◌∷◌, ◌++◌, set as replace}
use Rattle.std.proofs.Common.{◌∙◌, add-zero}
use Rattle.std.proofs.Math.Option.{some}
use Prim.Native.Nat.{ℕ, suc, ◌+◌, ◌*◌, ◌-◌, ◌≤◌, ◌<◌}
use Rattle.std.proofs.Math.Numerals.{add-one}
use native.Mathlib.Omega.{arith}
use Rattle.std.proofs.Math.ListN.{length, get_elem?}
use Rattle.std.proofs.lemmas.List.Edits.{sets}
use Rattle.bytecode.specs.Words.{value_word}
use Rattle.words.specs.Numbers.{byte_at, half_at, word_at}
use Rattle.values.specs.Values.{Value, Cell, assigned}
use Rattle.bytecode.specs.Machine.{Activation, Made, Shared, end_by, running, unwinding, ended, all_holds, root_of, put_top, put_lowest, field_put}
use Rattle.bytecode.specs.State.{type_byte, word_of_cell, byte_of_cell, encode}
use Rattle.bytecode_layout.specs.Parts.{length-encode}
use Rattle.bytecode_layout.specs.Places.{frame_place, depth, open', address, cell_word, operand_word, cell_type, operand_type, field_word, field_type, phase, code, activations, records, holds, group}
use Rattle.bytecode_layout.specs.Edits.{on}
use Rattle.bytecode_layout.specs.Steps.{activation, goes-law, push-law, pop-law, operand-law, cell-law, cell-next-law, take-law, let-law, enter-law}
use Rattle.bytecode_layout.specs.Records.{made, make-law, field-next-law, field-law, root-cell-law, length-lowest}
use Rattle.bytecode_layout.specs.Phases.{condition-law, end-law, release-law, finish-law}
use Rattle.bytecode_layout.specs.Leaves.{drop-law}
use Rattle.bytecode_layout.specs.Reads.{encode-reads, on-reads, root-reads, operand-is, value-is, record-reads, group-is}
use Rattle.machine_frames.specs.Bytes.{went_to, operand_set, cell_set, field_set, pushed, popped, hold_taken, hold_let, released, entered, left, record_made, conditioned, finished}
use Rattle.bytecode.specs.State.{activation_length, activations_at, cell_types_at, cell_words_at, field_types_at, field_words_at, holds_at, operand_types_at, operand_words_at, record_length, records_at, state_length}

-- t stands at f, with us above it and fs below it
pub record On (l : List ℕ) (f : ℕ) (rs : Shared) (us : List Activation) (t : Activation) (fs : List Activation) : Type 0 where
  pub few : length fs < 32
  pub place : f ≡ frame_place (length fs)
  pub bytes : l ≡ encode (on rs us t fs)

pub on-long : {l : List ℕ} {f : ℕ} {rs : Shared} {us : List Activation} {t : Activation} {fs : List Activation} → On l f rs us t fs → length l ≡ state_length
on-long {rs = rs} {us = us} {t = t} {fs = fs} p = rw p.bytes (length-encode (on rs us t fs))

module _ {l : List ℕ} {f : ℕ} {rs : Shared} {us fs : List Activation} {t : Activation} (p : On l f rs us t fs) where
  -- ── reading ──
  pub read-depth : byte_at l (f + 1) ≡ length t.operands
  read-depth = rw (p.bytes, p.place) (on-reads depth tt rs us t fs p.few)

  pub read-open : byte_at l (f + 2) ≡ length t.holds
  read-open = rw (p.bytes, p.place) (on-reads open' tt rs us t fs p.few)

  pub read-address : half_at l (f + 4) ≡ t.address
  read-address = rw (p.bytes, p.place) (on-reads address tt rs us t fs p.few)

  -- the operand v, with vs below it and ws above it
  pub read-operand : (ws : List Value) (v : Value) (vs : List Value) (k : ℕ) → t.operands ≡ ws ++ (v ∷ vs) → k ≡ length vs → k < 32
      → (word_at l (f + (operand_words_at + 4 * k)) ≡ value_word v) × (byte_at l (f + (operand_types_at + k)) ≡ type_byte v)
  read-operand ws v vs k e n h =
      let h' : length vs < 32 = omega arith in (
        rw (p.bytes, p.place, n) (on-reads (operand_word (length vs)) h' rs us t fs p.few ∙ rw e (operand-is value_word ws v vs h')),
        rw (p.bytes, p.place, n) (on-reads (operand_type (length vs)) h' rs us t fs p.few ∙ rw e (operand-is type_byte ws v vs h')),
      )

  pub read-cell : (j : ℕ) (c : Cell) → get_elem? t.cells j ≡ some c → j < 32
      → (word_at l (f + (cell_words_at + 4 * j)) ≡ word_of_cell c) × (byte_at l (f + (cell_types_at + j)) ≡ byte_of_cell c)
  read-cell j c e h = (
    rw (p.bytes, p.place) (on-reads (cell_word j) h rs us t fs p.few ∙ value-is word_of_cell 32 t.cells j c e h),
    rw (p.bytes, p.place) (on-reads (cell_type j) h rs us t fs p.few ∙ value-is byte_of_cell 32 t.cells j c e h),
  )

-- ── stores within an activation ──
module _ {l : List ℕ} {f : ℕ} {rs : Shared} {us fs : List Activation} {b i : ℕ} {cs : List Cell} {vs : List Value} {gs : List ℕ} where
  pub on_go : On l f rs us (activation b i cs vs gs) fs → (j : ℕ) → On (went_to l f j) f rs us (activation b j cs vs gs) fs
  on_go p j = record { few = p.few; place = p.place; bytes = rw (p.bytes, p.place) (goes-law rs us fs p.few b i cs vs gs j) }

  module _ (v : Value) (w t : ℕ) (ew : w ≡ value_word v) (et : t ≡ type_byte v) where
    pub on-push : On l f rs us (activation b i cs vs gs) fs → (n : ℕ) → n ≡ length vs → n < 32 → On (pushed l f n w t) f rs us (activation b i cs (v ∷ vs) gs) fs
    on-push p n e h =
        let h' : length vs < 32 = omega arith in
        record { few = p.few; place = p.place; bytes = rw (p.bytes, p.place, e, ew, et, add-one (length vs)) (push-law rs us fs p.few b i cs vs gs v h') }

    pub on-cell : On l f rs us (activation b i cs vs gs) fs → (j : ℕ) → j < length cs → j < 32
        → On (cell_set l f j w t) f rs us (activation b i (replace cs j (assigned v)) vs gs) fs
    on-cell p j h k = record { few = p.few; place = p.place; bytes = rw (p.bytes, p.place, ew, et) (cell-law rs us fs p.few b i cs vs gs j v h k) }

    -- behind the last cell
    pub on-cell-next : On l f rs us (activation b i cs vs gs) fs → (j : ℕ) → j ≡ length cs → j < 32
        → On (cell_set l f j w t) f rs us (activation b i (cs ++ (assigned v ∷ [])) vs gs) fs
    on-cell-next p j e h =
        let h' : length cs < 32 = omega arith in
        record { few = p.few; place = p.place; bytes = rw (p.bytes, p.place, e, ew, et) (cell-next-law rs us fs p.few b i cs vs gs v h') }

  pub on-pop : (v : Value) → On l f rs us (activation b i cs (v ∷ vs) gs) fs → (n : ℕ) → n ≡ length vs → n < 32 → On (popped l f n) f rs us (activation b i cs vs gs) fs
  on-pop v p n e h =
      let h' : length vs < 32 = omega arith in
      record { few = p.few; place = p.place; bytes = rw (p.bytes, p.place, e) (pop-law rs us fs p.few b i cs vs gs v h') }

-- an operand in the place of u, with ws above it and vs below it
pub on-operand : {l : List ℕ} {f : ℕ} {rs : Shared} {us fs : List Activation} {b i : ℕ} {cs : List Cell} {gs : List ℕ} (v : Value) (w t : ℕ) → w ≡ value_word v → t ≡ type_byte v
    → (ws : List Value) (u : Value) (vs : List Value) → On l f rs us (activation b i cs (ws ++ (u ∷ vs)) gs) fs → (n : ℕ) → n ≡ length vs → n < 32
    → On (operand_set l f n w t) f rs us (activation b i cs (ws ++ (v ∷ vs)) gs) fs
on-operand {rs = rs} {us = us} {fs = fs} {b = b} {i = i} {cs = cs} {gs = gs} v w t ew et ws u vs p n e h =
    let h' : length vs < 32 = omega arith in
    record { few = p.few; place = p.place; bytes = rw (p.bytes, p.place, e, ew, et) (operand-law rs us fs p.few b i cs vs gs ws u v h') }

-- ── the top: what the header says ──
module _ {l : List ℕ} {f : ℕ} {rs : Shared} {fs : List Activation} {t : Activation} (p : On l f rs [] t fs) where
  pub read_count : byte_at l 2 ≡ length (t ∷ fs)
  read_count = rw p.bytes (encode-reads activations tt (running rs t fs))

  pub read-records : half_at l 4 ≡ length rs.records
  read-records = rw p.bytes (encode-reads records tt (running rs t fs))

  pub read-holds : half_at l 6 ≡ length (all_holds (t ∷ fs))
  read-holds = rw p.bytes (encode-reads holds tt (running rs t fs))

  -- a hold, with us taken after it
  pub read-group : (us : List ℕ) (g : ℕ) (gs : List ℕ) (k : ℕ) → all_holds (t ∷ fs) ≡ us ++ (g ∷ gs) → k ≡ length gs → k < 512 → byte_at l (holds_at + k) ≡ g
  read-group us g gs k e n h =
      let h' : length gs < 512 = omega arith in
      rw (p.bytes, n) (encode-reads (group (length gs)) h' (running rs t fs) ∙ rw e (group-is us g gs h'))

  -- the root stands first
  pub read-root : (j : ℕ) (c : Cell) → get_elem? (root_of t fs).cells j ≡ some c → j < 32
      → (word_at l (activations_at + (cell_words_at + 4 * j)) ≡ word_of_cell c) × (byte_at l (activations_at + (cell_types_at + j)) ≡ byte_of_cell c)
  read-root j c e h = (
    rw p.bytes (root-reads (cell_word j) h rs t fs ∙ value-is word_of_cell 32 (root_of t fs).cells j c e h),
    rw p.bytes (root-reads (cell_type j) h rs t fs ∙ value-is byte_of_cell 32 (root_of t fs).cells j c e h),
  )

  pub read-field : (n x : ℕ) (q : Made) (v : Value) → get_elem? rs.records n ≡ some q → get_elem? q.fields x ≡ some v → n < 256 → x < 8
      → (word_at l (records_at + record_length * n + (field_words_at + 4 * x)) ≡ value_word v) × (byte_at l (records_at + record_length * n + (field_types_at + x)) ≡ type_byte v)
  read-field n x q v e e' h k = (
    rw p.bytes (record-reads (field_word x) k rs t fs n q e h ∙ value-is value_word 8 q.fields x v e' k),
    rw p.bytes (record-reads (field_type x) k rs t fs n q e h ∙ value-is type_byte 8 q.fields x v e' k),
  )

  -- ── activations more and less ──
  pub on-enter : (b i k : ℕ) → k ≡ length (t ∷ fs) → k < 32 → On (entered l (f + activation_length) k b i) (f + activation_length) rs [] (activation b i [] [] []) (t ∷ fs)
  on-enter b i k e h =
      let h' : length (t ∷ fs) < 32 = omega arith in
      let q : f + activation_length ≡ frame_place (length (t ∷ fs)) = rw p.place (omega arith) in
      record { few = h'; place = q; bytes = rw (p.bytes, q, e, add-one (length (t ∷ fs))) (rw (add-zero (frame_place (length (t ∷ fs)))) at (enter-law rs t fs h' b i)) }

  -- ── records ──
  pub on-make : (c r : ℕ) → r ≡ length rs.records → r < 256 → On (record_made l r c) f (record { records = rs.records ++ (made c [] ∷ []) }) [] t fs
  on-make c r e h =
      let h' : length rs.records < 256 = omega arith in
      record { few = p.few; place = p.place; bytes = rw (p.bytes, e, ← add-zero (records_at + record_length * length rs.records), add-one (length rs.records)) (make-law rs t fs c h') }

  module _ (v : Value) (w y : ℕ) (ew : w ≡ value_word v) (et : y ≡ type_byte v) where
    -- behind the last field of record n
    pub on-field-next : (n c : ℕ) (vs : List Value) (x : ℕ) → get_elem? rs.records n ≡ some (made c vs) → n < 256 → x ≡ length vs → x < 8
        → On (field_set l n x w y) f (record { records = replace rs.records n (made c (vs ++ (v ∷ []))) }) [] t fs
    on-field-next n c vs x e h ex k =
        let k' : length vs < 8 = omega arith in
        record { few = p.few; place = p.place; bytes = rw (p.bytes, ew, et, ex) (field-next-law rs t fs n c vs v e h k') }

    pub on-field : (n x : ℕ) (q : Made) → get_elem? rs.records n ≡ some q → n < 256 → x < length q.fields → x < 8
        → On (field_set l n x w y) f (record { records = field_put n x v q rs.records }) [] t fs
    on-field n x q e h i k = record { few = p.few; place = p.place; bytes = rw (p.bytes, ew, et) (field-law rs t fs n x q v e h i k) }

    -- a cell of the root
    pub on-root : (j : ℕ) → j < length (root_of t fs).cells → j < 32
        → On (cell_set l 32 j w y) f rs [] (put_top (replace (root_of t fs).cells j (assigned v)) t fs) (put_lowest (replace (root_of t fs).cells j (assigned v)) fs)
    on-root j h k =
        let n = length-lowest (replace (root_of t fs).cells j (assigned v)) fs in
        record { few = rw n p.few; place = rw n p.place; bytes = rw (p.bytes, ew, et) (root-cell-law rs t fs j v h k) }

  -- ── the phases ──
  module _ (small : length rs.records ≤ 256) where
    pub on-condition : (c : ℕ) → conditioned l c ≡ encode (unwinding (all_holds (t ∷ fs)) (end_by c))
    on-condition c =
        let few : length (t ∷ fs) ≤ 32 = omega (arith, p.few) in
        rw (read_count, read-records, p.bytes) (condition-law rs t fs (length (t ∷ fs)) (length rs.records) (omega arith) few (omega arith) small c)

    pub on-finish : all_holds (t ∷ fs) ≡ [] → finished l ≡ encode (ended 0)
    on-finish e =
        let few : length (t ∷ fs) ≤ 32 = omega (arith, p.few) in
        rw (read_count, read-records, p.bytes) (end-law rs t fs (length (t ∷ fs)) (length rs.records) (omega arith) few (omega arith) small e)

-- the top taken off
pub on-leave : {l : List ℕ} {f : ℕ} {rs : Shared} {g t : Activation} {fs : List Activation} → On l f rs [] g (t ∷ fs) → g.holds ≡ [] → (k : ℕ) → k ≡ length (t ∷ fs)
    → On (left l f k) (f - activation_length) rs [] t fs
on-leave {f = f} {rs = rs} {g = g} {t = t} {fs = fs} p e k n =
    let few : length (t ∷ fs) < 32 = p.few in
    let few' : length fs < 32 = omega arith in
    let q : f - activation_length ≡ frame_place (length fs) = rw p.place (omega arith) in
    record { few = few'; place = q; bytes = rw (p.bytes, p.place, n) (drop-law rs g t fs p.few e) }

-- ── holds of the top ──
module _ {l : List ℕ} {f : ℕ} {rs : Shared} {fs : List Activation} {b i : ℕ} {cs : List Cell} {vs : List Value} {gs : List ℕ} (g : ℕ) where
  pub on-take : On l f rs [] (activation b i cs vs gs) fs → half_at l 6 < 512 → On (hold_taken l f g) f rs [] (activation b i cs vs (g ∷ gs)) fs
  unfolding all_holds
  on-take p h =
      let n : half_at l 6 ≡ length (gs ++ all_holds fs) = read-holds p in
      let o : byte_at l (f + 2) ≡ length gs = read-open p in
      let h' : length (gs ++ all_holds fs) < 512 = omega arith in
      record { few = p.few; place = p.place; bytes = rw (n, o, p.bytes, p.place, add-one (length (gs ++ all_holds fs)), add-one (length gs)) (take-law rs fs p.few b i cs vs g gs h') }

  pub on-let : On l f rs [] (activation b i cs vs (g ∷ gs)) fs → half_at l 6 ≤ 512 → On (hold_let l f) f rs [] (activation b i cs vs gs) fs
  unfolding all_holds
  on-let p h =
      let n : half_at l 6 ≡ suc (length (gs ++ all_holds fs)) = read-holds p in
      let o : byte_at l (f + 2) ≡ suc (length gs) = read-open p in
      let n' : half_at l 6 - 1 ≡ length (gs ++ all_holds fs) = omega arith in
      let o' : byte_at l (f + 2) - 1 ≡ length gs = omega arith in
      let h' : length (gs ++ all_holds fs) < 512 = omega arith in
      record { few = p.few; place = p.place; bytes = rw (n', o', p.bytes, p.place) (let-law rs fs p.few b i cs vs g gs h') }

-- ── releasing ──
module _ (l : List ℕ) (c : ℕ) where
  pub read-releasing : (gs : List ℕ) → l ≡ encode (unwinding gs (end_by c)) → (byte_at l 0 ≡ 1) × (byte_at l 1 ≡ c) × (half_at l 6 ≡ length gs)
  read-releasing gs e = (
    rw e (encode-reads phase tt (unwinding gs (end_by c))),
    rw e (encode-reads code tt (unwinding gs (end_by c))),
    rw e (encode-reads holds tt (unwinding gs (end_by c))),
  )

  pub read-last : (g : ℕ) (gs : List ℕ) (k : ℕ) → l ≡ encode (unwinding (g ∷ gs) (end_by c)) → k ≡ length gs → k < 512 → byte_at l (holds_at + k) ≡ g
  read-last g gs k e n h =
      let h' : length gs < 512 = omega arith in
      rw (e, n) (encode-reads (group (length gs)) h' (unwinding (g ∷ gs) (end_by c)) ∙ group-is [] g gs h')

  pub read-ended : l ≡ encode (ended c) → (byte_at l 0 ≡ 2) × (byte_at l 1 ≡ c)
  read-ended e = (rw e (encode-reads phase tt (ended c)), rw e (encode-reads code tt (ended c)))

  pub releases-last : (g : ℕ) (gs : List ℕ) (k : ℕ) → l ≡ encode (unwinding (g ∷ gs) (end_by c)) → k ≡ length gs → k < 512 → released l k ≡ encode (unwinding gs (end_by c))
  releases-last g gs k e n h =
      let h' : length gs < 512 = omega arith in
      rw (e, n) (release-law g gs c h')

  pub finishes-by : l ≡ encode (unwinding [] (end_by c)) → sets l 0 (2 ∷ []) ≡ encode (ended c)
  finishes-by e = rw e (finish-law c)
