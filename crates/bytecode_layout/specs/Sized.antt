-- Macros whose states find room, and what a sound state of such a macro has: values, records and activations that can be written and read.
use Rattle.std.specs.Prelude.{◌≡◌, false, ℕ, ◌+◌, ◌-◌, ◌≤◌, ◌<◌, eqb, leb}
use Rattle.std.proofs.Math.Path.{refl, sym, ap}
use Rattle.std.proofs.Common.{◌∙◌, length-append}
use Rattle.std.proofs.Math.Bool.{true}
use mathlib.Core.List.{List, [], ◌∷◌, ◌++◌, map}
use Rattle.std.proofs.Math.Option.{Option, none, some}
use native.Mathlib.Omega.{arith}
use Rattle.std.proofs.Math.ListN.{length, get_elem?}
use Rattle.std.proofs.lemmas.List.{length-map}
use borrow.Author.Tests.{ltb-true, leb-true, eqb-true, lt-ltb, le-leb, ne_eqb}
use mir.Val.{SFits}
use mir.Syntax.{w32}
use Rattle.std.specs.Int.Signed.{mag}
use Rattle.bytecode.specs.Words.{value_word}
use Rattle.logic.specs.Lists.{all, Each}
use Rattle.words.specs.Laws.{integer-back, word_below}
use Rattle.values.specs.Types.{Ty, reference, sames}
use Rattle.values.specs.Values.{Value, int, log, bit, ref, ty_of, tys_of, Cell, assigned, ty_of_cell}
use Rattle.bytecode.specs.Macro.{Body, Macro, Shape, ty_of_byte}
use Rattle.bytecode.specs.Instructions.{body_at, in_body}
use Rattle.bytecode.specs.Rules.{found_at, on_stack}
use Rattle.bytecode.specs.Machine.{Activation, Made, Shared, running}
use Rattle.bytecode.specs.Sound.{sound_value, class_is, typed_values, sound_cell, typed_cells, of_class, sound_record, sound_group, sound_at, sound_activation, calls_body, parameters_of, sound_waiting, sound}
use Rattle.bytecode.specs.State.{type_byte, read_value, word_of_cell, byte_of_cell, read_cell}
use Rattle.logic.specs.Tests.{never, halves}
use Rattle.logic.specs.ListLaws.{each_all, each-end, index_below}
use Rattle.bytecode_laws.specs.Terms.{Named}
use Rattle.values.specs.Identical.{sames→≡, length_types}

-- types that name classes that are there
abbrev pub AllNamed : Macro → List Ty → Type 0
AllNamed m ts = Each (Named (length m.classes)) ts

-- what holds of every macro that passes the loading check
pub record Sized (m : Macro) : Type 0 where
  pub few-classes : length m.classes ≤ 16
  pub few-bodies : length m.bodies ≤ 64
  pub few-instructions : length m.code < 65536
  pub in_code : (k i : ℕ) → in_body m k i ≡ true → i < length m.code
  pub classes : (c : ℕ) (ts : List Ty) → get_elem? m.classes c ≡ some ts → (length ts ≤ 8) × AllNamed m ts
  pub cells : (k : ℕ) (b : Body) → body_at m k ≡ some b → (length b.cells ≤ 32) × AllNamed m b.cells
  pub found : (k i : ℕ) (s : Shape) → in_body m k i ≡ true → found_at m i ≡ some s → (s.holds ≤ 16) × (length s.operands ≤ 32) × AllNamed m s.operands

-- ── values ──
-- what is written as a word and a type byte, and read from them
pub record Laid {A : Type 0} (word_of byte_of : A → ℕ) (read : ℕ → ℕ → Option A) (x : A) : Type 0 where
  pub readable : read (byte_of x) (word_of x) ≡ some x
  pub narrow : word_of x < 4294967296
  pub type : byte_of x < 256

abbrev pub GoodValue : ℕ → Value → Type 0
GoodValue classes v = Laid value_word type_byte (read_value classes) v

abbrev pub GoodCell : ℕ → Cell → Type 0
GoodCell classes c = Laid word_of_cell byte_of_cell (read_cell classes) c

reference-byte : (n c : ℕ) → c < n → ty_of_byte n (16 + c) ≡ some (reference c)
unfolding ty_of_byte
reference-byte n c h =
    let e : 16 + c - 16 ≡ c = omega arith in
    rw (ne_eqb (16 + c) 1 (λ q. omega arith), ne_eqb (16 + c) 2 (λ q. omega arith), ne_eqb (16 + c) 3 (λ q. omega arith), le-leb 16 (16 + c) (omega arith), e, lt-ltb c n h)

known-class : (c : ℕ) (o : Option Made) → class_is c o ≡ true → (r : Made) × (o ≡ some r)
known-class c none h = never h
known-class c (some r) h = (r, refl)

module _ (n : ℕ) (few : n ≤ 16) (rs : List Made) (small : length rs ≤ 256) where
  good-value : (v : Value) → Named n (ty_of v) → sound_value rs v ≡ true → GoodValue n v
  unfolding sound_value read_value ty_of_byte
  good-value (int z) t h =
      let f : SFits w32 z = record { sfits = ltb-true (mag z) 2147483648 h } in
      record { readable = rw (integer-back z f); narrow = word_below z f; type = omega arith }
  good-value (log false) t h = record { readable = refl; narrow = omega arith; type = omega arith }
  good-value (log true) t h = record { readable = refl; narrow = omega arith; type = omega arith }
  good-value (bit k) t h = record { readable = refl; narrow = ltb-true k 4294967296 h; type = omega arith }
  good-value (ref c none) t h = record { readable = rw (reference-byte n c t); narrow = omega arith; type = omega arith }
  good-value (ref c (some k)) t h =
      let r = known-class c (get_elem? rs k) h in
      record { readable = rw (reference-byte n c t); narrow = omega (arith, index_below rs k r.0 r.1); type = omega arith }

  good-values : (vs : List Value) → Each (Named n) (tys_of vs) → all (sound_value rs) vs ≡ true → Each (GoodValue n) vs
  unfolding tys_of all
  good-values [] t h = tt
  good-values (v ∷ vs) t h =
      let a = halves (sound_value rs v) (all (sound_value rs) vs) h in
      (good-value v t.0 a.0, good-values vs t.1 a.1)

  good-cell : (c : Cell) → Named n (ty_of_cell c) → sound_cell rs c ≡ true → GoodCell n c
  unfolding read_cell
  good-cell (assigned v) t h = let g = good-value v t h in record { readable = rw g.readable; narrow = g.narrow; type = g.type }

  good-cells : (cs : List Cell) → Each (Named n) (map ty_of_cell cs) → all (sound_cell rs) cs ≡ true → Each (GoodCell n) cs
  unfolding all
  good-cells [] t h = tt
  good-cells (c ∷ cs) t h =
      let a = halves (sound_cell rs c) (all (sound_cell rs) cs) h in
      (good-cell c t.0 a.0, good-cells cs t.1 a.1)

-- ── records and activations ──
pub record GoodRecord (m : Macro) (r : Made) : Type 0 where
  pub types : List Ty
  pub class : get_elem? m.classes r.class ≡ some types
  pub count : length r.fields ≡ length types
  pub few : length r.fields ≤ 8
  pub values : Each (GoodValue (length m.classes)) r.fields

pub record GoodActivation (m : Macro) (f : Activation) : Type 0 where
  pub which : Body
  pub body : body_at m f.body ≡ some which
  pub count : length f.cells ≡ length which.cells
  pub few-cells : length f.cells ≤ 32
  pub few-operands : length f.operands ≤ 32
  pub few-holds : length f.holds ≤ 16
  pub address : f.address < 65536
  pub cells : Each (GoodCell (length m.classes)) f.cells
  pub operands : Each (GoodValue (length m.classes)) f.operands
  pub holds : Each (λ (g : ℕ). g ≤ 63) f.holds

module _ (m : Macro) (sized : Sized m) (rs : List Made) (small : length rs ≤ 256) where
  typed : (vs : List Value) (ts : List Ty) → typed_values rs vs ts ≡ true → AllNamed m ts → (length vs ≡ length ts) × Each (GoodValue (length m.classes)) vs
  typed vs ts h t =
      let a = halves (sames (tys_of vs) ts) (all (sound_value rs) vs) h in
      let e : tys_of vs ≡ ts = sames→≡ (tys_of vs) ts a.0 in
      (sym (length_types vs) ∙ ap length e, good-values (length m.classes) sized.few-classes rs small vs (rw e t) a.1)

  typed-cells : (cs : List Cell) (ts : List Ty) → typed_cells rs cs ts ≡ true → AllNamed m ts → (length cs ≡ length ts) × Each (GoodCell (length m.classes)) cs
  typed-cells cs ts h t =
      let a = halves (sames (map ty_of_cell cs) ts) (all (sound_cell rs) cs) h in
      let e : map ty_of_cell cs ≡ ts = sames→≡ (map ty_of_cell cs) ts a.0 in
      (sym (length-map cs ty_of_cell) ∙ ap length e, good-cells (length m.classes) sized.few-classes rs small cs (rw e t) a.1)

  good-record : (r : Made) → sound_record m rs r ≡ true → GoodRecord m r
  good-record r h = go (get_elem? m.classes r.class) refl h
    where
      go : (o : Option (List Ty)) → get_elem? m.classes r.class ≡ o → of_class rs r o ≡ true → GoodRecord m r
      go none e h = never h
      go (some ts) e h =
          let c = sized.classes r.class ts e in
          let a = typed r.fields ts h c.1 in
          record { types = ts; class = e; count = a.0; few = rw a.0 c.0; values = a.1 }

  good-activation : (taken : List Ty) (f : Activation) → sound_activation m rs taken f ≡ true → GoodActivation m f
  unfolding sound_activation
  good-activation taken f h =
      let a = halves (in_body m f.body f.address) (sound_at m rs f taken (found_at m f.address) (body_at m f.body)) h in
      go a.0 (found_at m f.address) (body_at m f.body) refl refl a.1
    where
      go : in_body m f.body f.address ≡ true → (s : Option Shape) (b : Option Body) → found_at m f.address ≡ s → body_at m f.body ≡ b
          → sound_at m rs f taken s b ≡ true → GoodActivation m f
      go i none b p q h = never h
      go i (some s) none p q h = never h
      go i (some s) (some b) p q h =
          let x1 = halves (sames (taken ++ tys_of f.operands) s.operands) _ h in
          let x2 = halves (all (sound_value rs) f.operands) _ x1.1 in
          let x3 = halves (eqb (length f.holds) s.holds) _ x2.1 in
          let x4 = halves (all sound_group f.holds) (typed_cells rs f.cells b.cells) x3.1 in
          let c = sized.cells f.body b q in
          let t = typed-cells f.cells b.cells x4.1 c.1 in
          let fd = sized.found f.body f.address s i p in
          let e : taken ++ tys_of f.operands ≡ s.operands = sames→≡ (taken ++ tys_of f.operands) s.operands x1.0 in
          let n : length taken + length (tys_of f.operands) ≡ length s.operands = sym (length-append taken (tys_of f.operands)) ∙ ap length e in
          let hn : length f.holds ≡ s.holds = eqb-true (length f.holds) s.holds x3.0 in
          let cn : length f.cells ≡ length b.cells = t.0 in
          let cf : length b.cells ≤ 32 = c.0 in
          let ff : length s.operands ≤ 32 = fd.1 in
          let hf : s.holds ≤ 16 = fd.0 in
          record {
            which = b;
            body = q;
            count = cn;
            few-cells = omega arith;
            few-operands = omega (arith, length_types f.operands);
            few-holds = omega arith;
            address = omega (arith, sized.in_code f.body f.address i, sized.few-instructions);
            cells = t.1;
            operands = good-values (length m.classes) sized.few-classes rs small f.operands (each-end (Named (length m.classes)) taken (tys_of f.operands) (rw e fd.2)) x2.0;
            holds = each_all sound_group (λ (g : ℕ). g ≤ 63) (λ g h. leb-true g 63 h) f.holds x4.0;
          }

  good-waiting : (k : ℕ) (fs : List Activation) → sound_waiting m rs k fs ≡ true → Each (GoodActivation m) fs
  unfolding sound_waiting
  good-waiting k [] h = tt
  good-waiting k (f ∷ fs) h =
      let a = halves (calls_body (get_elem? m.code f.address) k) _ h in
      let b = halves (sound_activation m rs (on_stack (parameters_of (body_at m k))) f) (sound_waiting m rs f.body fs) a.1 in
      (good-activation (on_stack (parameters_of (body_at m k))) f b.0, good-waiting f.body fs b.1)

-- ── a running state ──
pub record Good (m : Macro) (s : Shared) (f : Activation) (fs : List Activation) : Type 0 where
  pub few : length (f ∷ fs) ≤ 32
  pub small : length s.records ≤ 256
  pub records : Each (GoodRecord m) s.records
  pub activations : Each (GoodActivation m) (f ∷ fs)

pub good : (m : Macro) → Sized m → (s : Shared) (f : Activation) (fs : List Activation) → sound m (running s f fs) ≡ true → Good m s f fs
unfolding sound
good m sized s f fs h =
    let rs = s.records in
    let a = halves (leb (length (f ∷ fs)) 32) _ h in
    let b = halves (leb (length rs) 256) _ a.1 in
    let c = halves (all (sound_record m rs) rs) _ b.1 in
    let d = halves (sound_activation m rs [] f) (sound_waiting m rs f.body fs) c.1 in
    let small : length rs ≤ 256 = leb-true (length rs) 256 b.0 in
    record {
      few = leb-true (length (f ∷ fs)) 32 a.0;
      small = small;
      records = each_all (sound_record m rs) (GoodRecord m) (good-record m sized rs small) rs c.0;
      activations = (good-activation m sized rs small [] f d.0, good-waiting m sized rs small f.body fs d.1);
    }
