-- What was read stands there: the bytes that a value, a row of values, an activation or a record was read from.
use Rattle.std.specs.Prelude.{◌≡◌, Bool, true, false, ◌&&◌, ◌⊎◌, eqb, drop}
use Rattle.std.proofs.Math.Path.{refl, ap, ap₂}
use Rattle.std.proofs.Common.{sym, ◌∙◌, inl, inr, length-drop, get_or-drop}
use mathlib.Core.List.{List, [], ◌∷◌, map, reverse, reverse-reverse}
use Rattle.std.proofs.Math.Option.{Option, none, some}
use Prim.Native.Nat.{ℕ, zero, suc, ◌+◌, ◌*◌, ◌-◌, ◌≤◌, ◌<◌}
use native.Mathlib.Omega.{arith}
use Rattle.std.proofs.Math.Dec.{leb, ltb}
use Rattle.std.proofs.Math.ListN.{length, take, get_elem?}
use Rattle.std.proofs.Math.Seq.{take-add}
use borrow.Author.Tests.{eqb-true, leb-true, ltb-true}
use Rattle.bytecode.specs.Words.{log_word, value_word, valid_word, word_value}
use Rattle.logic.specs.Choice.{If◌then◌else◌}
use Rattle.words.specs.Numbers.{byte_at, half_at, word_at, word}
use Rattle.words.specs.Laws.{four, Bytes, number-below, bytes-slice, word_back}
use Rattle.values.specs.Types.{Ty, integer, logical, bits, reference, ty_byte}
use Rattle.values.specs.Values.{Value, Cell}
use Rattle.bytecode.specs.Macro.{Body, Macro, ty_of_byte}
use Rattle.bytecode.specs.Instructions.{body_at}
use Rattle.bytecode.specs.Machine.{Activation, Made}
use Rattle.bytecode.specs.State.{flat, type_byte, read_value, read_cell, read_row, word_of_cell, byte_of_cell, read_activation, read_record}
use Rattle.logic.specs.Tests.{halves}
use Rattle.logic.specs.OptionLaws.{chosen, kept, same_some}

-- ── a value ──
pub pick : {A : Type 0} (b : Bool) (x y z : A) → (If b then x else y) ≡ z → ((b ≡ true) × (x ≡ z)) ⊎ ((b ≡ false) × (y ≡ z))
pick true x y z h = inl (refl, h)
pick false x y z h = inr (refl, h)

module _ (n t : ℕ) (ty : Ty) where
  class-read : (If leb 16 t && ltb (t - 16) n then some (reference (t - 16)) else none) ≡ some ty → ty_byte ty ≡ t
  class-read h =
      let a = chosen (leb 16 t && ltb (t - 16) n) (some (reference (t - 16))) ty h in
      let b = leb-true 16 t (halves (leb 16 t) (ltb (t - 16) n) a.0).0 in
      rw (← same_some a.1) (omega arith)

  type-read : ty_of_byte n t ≡ some ty → ty_byte ty ≡ t
  unfolding ty_of_byte
  type-read h = go (pick (eqb t 1) (some integer) _ (some ty) h)
    where
      go2 : ((eqb t 3 ≡ true) × (some bits ≡ some ty)) ⊎ ((eqb t 3 ≡ false) × ((If leb 16 t && ltb (t - 16) n then some (reference (t - 16)) else none) ≡ some ty)) → ty_byte ty ≡ t
      go2 (inl e) = rw (← same_some e.1) (sym (eqb-true t 3 e.0))
      go2 (inr e) = class-read e.1

      go1 : ((eqb t 2 ≡ true) × (some logical ≡ some ty)) ⊎ ((eqb t 2 ≡ false)
          × ((If eqb t 3 then some bits else If leb 16 t && ltb (t - 16) n then some (reference (t - 16)) else none) ≡ some ty)) → ty_byte ty ≡ t
      go1 (inl e) = rw (← same_some e.1) (sym (eqb-true t 2 e.0))
      go1 (inr e) = go2 (pick (eqb t 3) (some bits) _ (some ty) e.1)

      go : ((eqb t 1 ≡ true) × (some integer ≡ some ty))
          ⊎ ((eqb t 1 ≡ false) × ((If eqb t 2 then some logical else If eqb t 3 then some bits else If leb 16 t && ltb (t - 16) n then some (reference (t - 16)) else none) ≡ some ty)) → ty_byte ty ≡ t
      go (inl e) = rw (← same_some e.1) (sym (eqb-true t 1 e.0))
      go (inr e) = go1 (pick (eqb t 2) (some logical) _ (some ty) e.1)

logical-word : (w : ℕ) → w < 2 → log_word (eqb w 1) ≡ w
logical-word zero h = refl
logical-word (suc zero) h = refl
logical-word (suc (suc w)) h = absurd (omega arith)

reference-word : (c w : ℕ) → value_word (word_value (reference c) w) ≡ w
reference-word c zero = refl
reference-word c (suc w) = refl

word_read : (ty : Ty) (w : ℕ) → w < 4294967296 → valid_word ty w ≡ true → (type_byte (word_value ty w) ≡ ty_byte ty) × (value_word (word_value ty w) ≡ w)
word_read integer w h v = (refl, word_back w h)
word_read logical w h v = (refl, logical-word w (ltb-true w 2 v))
word_read bits w h v = (refl, refl)
word_read (reference c) w h v = (refl, reference-word c w)

value_read : (n t w : ℕ) (v : Value) → w < 4294967296 → read_value n t w ≡ some v → (type_byte v ≡ t) × (value_word v ≡ w)
unfolding read_value
value_read n t w v h e =
    let a = kept (ty_of_byte n t) _ v e in
    let b = chosen (valid_word a.0 w) (some (word_value a.0 w)) v a.2 in
    let c = word_read a.0 w h b.0 in
    rw (← same_some b.1) (c.0 ∙ type-read n t a.0 a.1, c.1)

-- a cell's are its value's
cell-read : (n t w : ℕ) (c : Cell) → w < 4294967296 → read_cell n t w ≡ some c → (byte_of_cell c ≡ t) × (word_of_cell c ≡ w)
unfolding read_cell
cell-read n t w c h e =
    let a = kept (read_value n t w) _ c e in
    rw (← same_some a.2) (value_read n t w a.0 h a.1)

-- ── rows of values or cells ──
pub record RowRead {A : Type 0} (word_of byte_of : A → ℕ) (k : ℕ) (ws ts : List ℕ) (xs : List A) : Type 0 where
  pub count : length xs ≡ k
  pub words : flat word (map word_of xs) ≡ take (4 * k) ws
  pub types : map byte_of xs ≡ take k ts

abbrev pub ValuesRead : ℕ → List ℕ → List ℕ → List Value → Type 0
ValuesRead k ws ts vs = RowRead value_word type_byte k ws ts vs

abbrev pub CellsRead : ℕ → List ℕ → List ℕ → List Cell → Type 0
CellsRead k ws ts cs = RowRead word_of_cell byte_of_cell k ws ts cs

pub bytes_drop : (n : ℕ) (l : List ℕ) → Bytes l → Bytes (drop n l)
bytes_drop n l b k = rw (get_or-drop n l k 0) (b (n + k))

module _ {A : Type 0} (word_of byte_of : A → ℕ) (read : ℕ → ℕ → Option A)
    (back : (t w : ℕ) (x : A) → w < 4294967296 → read t w ≡ some x → (byte_of x ≡ t) × (word_of x ≡ w)) where
  row_read : (k : ℕ) (ws ts : List ℕ) (xs : List A) → Bytes ws → 4 * k ≤ length ws → k ≤ length ts → read_row read k ws ts ≡ some xs
      → RowRead word_of byte_of k ws ts xs
  unfolding read_row flat
  row_read zero ws ts xs b hw ht e = rw (← same_some e) (record { count = refl; words = refl; types = refl })
  row_read (suc k) ws [] xs b hw ht e = absurd (omega arith)
  row_read (suc k) ws (t ∷ ts) xs b hw ht e =
      let x = kept (read t (word_at ws 0)) _ xs e in
      let y = kept (read_row read k (drop 4 ws) ts) _ xs x.2 in
      let v = back t (word_at ws 0) x.0 (number-below ws b 0 four) x.1 in
      let r = row_read k (drop 4 ws) ts y.0 (bytes_drop 4 ws b) (rw (length-drop 4 ws) (omega arith)) (omega arith) y.1 in
      let four' : 4 * suc k ≡ 4 + 4 * k = omega arith in
      let s : word (word_at ws 0) ≡ take 4 ws = bytes-slice ws b 0 four (omega arith) in
      rw (← same_some y.2)
      (record {
        count = ap suc r.count;
        words = rw (four', take-add 4 (4 * k) ws, ← s, ← r.words, v.1);
        types = ap₂ (λ (x : ℕ) (xs : List ℕ). x ∷ xs) v.0 r.types;
      })

values-read : (n k : ℕ) (ws ts : List ℕ) (vs : List Value) → Bytes ws → 4 * k ≤ length ws → k ≤ length ts → read_row (read_value n) k ws ts ≡ some vs → ValuesRead k ws ts vs
values-read n = row_read value_word type_byte (read_value n) (value_read n)

cells-read : (n k : ℕ) (ws ts : List ℕ) (cs : List Cell) → Bytes ws → 4 * k ≤ length ws → k ≤ length ts → read_row (read_cell n) k ws ts ≡ some cs → CellsRead k ws ts cs
cells-read n = row_read word_of_cell byte_of_cell (read_cell n) (cell-read n)

-- ── an activation, and a record ──
pub record ActivationRead (m : Macro) (x hs : List ℕ) (f : Activation) : Type 0 where
  pub which : Body
  pub known : body_at m (byte_at x 0) ≡ some which
  pub few-cells : length which.cells ≤ 32
  pub few-operands : byte_at x 1 ≤ 32
  pub few-holds : byte_at x 2 ≤ 16
  pub body : f.body ≡ byte_at x 0
  pub address : f.address ≡ half_at x 4
  pub cells : CellsRead (length which.cells) (drop 8 x) (drop 264 x) f.cells
  pub operands : ValuesRead (byte_at x 1) (drop 136 x) (drop 296 x) (reverse f.operands)
  pub holds : reverse f.holds ≡ take (byte_at x 2) hs

pub record RecordRead (m : Macro) (x : List ℕ) (r : Made) : Type 0 where
  pub types : List Ty
  pub known : get_elem? m.classes (byte_at x 0) ≡ some types
  pub class : r.class ≡ byte_at x 0
  pub fields : ValuesRead (length types) (drop 4 x) (drop 36 x) r.fields

module _ (m : Macro) (x : List ℕ) (b : Bytes x) where
  pub activation-read : length x ≡ 328 → (hs : List ℕ) (f : Activation) → read_activation m x hs ≡ some f → ActivationRead m x hs f
  unfolding read_activation
  activation-read wide hs f e =
      let n = length m.classes in
      let k = kept (body_at m (byte_at x 0)) _ f e in
      let t = chosen (leb (length k.0.cells) 32 && (leb (byte_at x 1) 32 && leb (byte_at x 2) 16)) _ f k.2 in
      let t1 = halves (leb (length k.0.cells) 32) (leb (byte_at x 1) 32 && leb (byte_at x 2) 16) t.0 in
      let t2 = halves (leb (byte_at x 1) 32) (leb (byte_at x 2) 16) t1.1 in
      let c32 : length k.0.cells ≤ 32 = leb-true (length k.0.cells) 32 t1.0 in
      let d32 : byte_at x 1 ≤ 32 = leb-true (byte_at x 1) 32 t2.0 in
      let cs = kept (read_row (read_cell n) (length k.0.cells) (drop 8 x) (drop 264 x)) _ f t.1 in
      let vs = kept (read_row (read_value n) (byte_at x 1) (drop 136 x) (drop 296 x)) _ f cs.2 in
      let rc = cells-read n (length k.0.cells) (drop 8 x) (drop 264 x) cs.0 (bytes_drop 8 x b) (rw (length-drop 8 x) (omega arith)) (rw (length-drop 264 x) (omega arith)) cs.1 in
      let rv = values-read n (byte_at x 1) (drop 136 x) (drop 296 x) vs.0 (bytes_drop 136 x b) (rw (length-drop 136 x) (omega arith)) (rw (length-drop 296 x) (omega arith)) vs.1 in
      rw (← same_some vs.2)
      (record {
        which = k.0;
        known = k.1;
        few-cells = c32;
        few-operands = d32;
        few-holds = leb-true (byte_at x 2) 16 t2.1;
        body = refl;
        address = refl;
        cells = rc;
        operands = rw (reverse-reverse vs.0) rv;
        holds = reverse-reverse (take (byte_at x 2) hs);
      })

  pub record-read : length x ≡ 44 → (r : Made) → read_record m x ≡ some r → ((ts : List Ty) → get_elem? m.classes (byte_at x 0) ≡ some ts → length ts ≤ 8) → RecordRead m x r
  unfolding read_record
  record-read wide r e few =
      let n = length m.classes in
      let k = kept (get_elem? m.classes (byte_at x 0)) _ r e in
      let f = few k.0 k.1 in
      let vs = kept (read_row (read_value n) (length k.0) (drop 4 x) (drop 36 x)) _ r k.2 in
      let rv = values-read n (length k.0) (drop 4 x) (drop 36 x) vs.0 (bytes_drop 4 x b) (rw (length-drop 4 x) (omega arith)) (rw (length-drop 36 x) (omega arith)) vs.1 in
      rw (← same_some vs.2) (record { types = k.0; known = k.1; class = refl; fields = rv })
