-- The records of a compiled macro and how they are read (refusal 8). (paper 01, Compiled macro)
use Rattle.std.specs.Prelude.{Bool, true, ◌&&◌, List, [], ◌∷◌, reverse, ℕ, zero, suc, ◌-◌, eqb, leb, ltb, length, drop}
use Rattle.std.proofs.Math.Option.{Option, none, some}
use Rattle.logic.specs.Choice.{If◌then◌else◌}
use Rattle.logic.specs.Options.{keep}
use Rattle.words.specs.Numbers.{byte_at, half_at, word_at}
use Rattle.values.specs.Types.{Ty, integer, logical, bits, reference}
use Rattle.values.specs.Ends.{refusal, Judged, accepted, refused}

-- ── what a macro holds ──
-- "BD: first address u16, parameters u8, result u8 (0 or a type), cells u8, cell types"
pub record Body : Type 0 where
  pub first : ℕ
  pub parameters : ℕ
  pub results : List Ty
  pub cells : List Ty

-- "IN: op u8, a u8, b 32 bits"
pub record Code : Type 0 where
  pub op : ℕ
  pub a : ℕ
  pub b : ℕ

-- the state that holds at an address: open holds, and the operands' types, the top first
pub record Shape : Type 0 where
  pub holds : ℕ
  pub operands : List Ty

abbrev pub shape : ℕ → List Ty → Shape
shape h ts = record { holds = h; operands = ts }

-- "SH: address u16, holds u8, depth u8, types from the bottom"
pub record Placed : Type 0 where
  pub address : ℕ
  pub found : Shape

pub record Macro : Type 0 where
  pub classes : List (List Ty)
  pub bodies : List Body
  pub code : List Code
  pub shapes : List Placed

-- ── reading ──
-- what was read, and the bytes after it
pub record Cut (A : Type 0) : Type 0 where
  pub value : A
  pub rest : List ℕ

abbrev pub cut : {A : Type 0} → A → List ℕ → Cut A
cut x l = record { value = x; rest = l }

-- how long each record is: HD, CL and BD up to their types, IN, SH up to its types, ZZ
abbrev pub head_length : ℕ
head_length = 8

abbrev pub class_length : ℕ
class_length = 3

abbrev pub body_length : ℕ
body_length = 7

abbrev pub code_length : ℕ
code_length = 8

abbrev pub shape_length : ℕ
shape_length = 6

abbrev pub end_length : ℕ
end_length = 2

-- "Each record has a two-byte mark, in ASCII."; a record of at least n bytes with this mark stands here (M3)
abbrev pub marked : ℕ → ℕ → ℕ → List ℕ → Bool
marked x y n l = leb n (length l) && (eqb (byte_at l 0) x && eqb (byte_at l 1) y)

-- "A type byte is 1, 2, 3, or 16 + class number."
unfoldable pub ty_of_byte : ℕ → ℕ → Option Ty
ty_of_byte classes t =
    If eqb t 1 then some integer else
    If eqb t 2 then some logical else
    If eqb t 3 then some bits else
    If leb 16 t && ltb (t - 16) classes then some (reference (t - 16)) else none

-- so many type bytes
unfoldable pub read_types : ℕ → ℕ → List ℕ → Option (Cut (List Ty))
read_types classes zero l = some (cut [] l)
read_types classes (suc n) [] = none
read_types classes (suc n) (t ∷ l) =
    keep (ty_of_byte classes t) (λ ty. keep (read_types classes n l) (λ c. some (cut (ty ∷ c.value) c.rest)))

-- "CL: field count u8, types"; "1 to 8 fields"
unfoldable pub read_class : ℕ → List (List Ty) → List ℕ → Option (Cut (List Ty))
read_class classes before l =
    If marked 67 76 class_length l && (leb 1 (byte_at l 2) && leb (byte_at l 2) 8)
    then read_types classes (byte_at l 2) (drop class_length l)
    else none

-- 0 or a type
unfoldable pub read_result : ℕ → ℕ → Option (List Ty)
read_result classes t = If eqb t 0 then some [] else keep (ty_of_byte classes t) (λ ty. some (ty ∷ []))

-- "first addresses rise from 0", strictly (M5)
abbrev pub rises : List Body → ℕ → Bool
rises [] a = eqb a 0
rises (b ∷ bs) a = ltb b.first a

unfoldable pub read_body : ℕ → ℕ → List Body → List ℕ → Option (Cut Body)
read_body classes instructions before l =
    let first = half_at l 2 in let params = byte_at l 4 in let cells = byte_at l 6 in
    If marked 66 68 body_length l && (rises before first && (ltb first instructions && leb params cells))
    then keep (read_result classes (byte_at l 5)) (λ r. keep (read_types classes cells (drop body_length l)) (λ c.
    some (cut (record { first = first; parameters = params; results = r; cells = c.value }) c.rest)))
    else none

unfoldable pub read_code : List Code → List ℕ → Option (Cut Code)
read_code before l =
    If marked 73 78 code_length l
    then some (cut (record { op = byte_at l 2; a = byte_at l 3; b = word_at l 4 }) (drop code_length l))
    else none

-- the shape given for an address
unfoldable pub shape_in : List Placed → ℕ → Option Shape
shape_in [] i = none
shape_in (p ∷ ps) i = If eqb p.address i then some p.found else shape_in ps i

-- "by rising address", strictly (M24)
abbrev pub follows : List Placed → ℕ → Bool
follows [] a = true
follows (p ∷ ps) a = ltb p.address a

unfoldable pub read_shape : ℕ → ℕ → List Placed → List ℕ → Option (Cut Placed)
read_shape classes instructions before l =
    let at = half_at l 2 in
    If marked 83 72 shape_length l && (ltb at instructions && follows before at)
    then keep (read_types classes (byte_at l 5) (drop shape_length l)) (λ c.
    some (cut (record { address = at; found = shape (byte_at l 4) (reverse c.value) }) c.rest))
    else none

-- so many records, the first of them record i; what was read before them is at hand, the latest first
pub data Parsed (A : Type 0) : Type 0 where
  parsed : A → ℕ → List ℕ → Parsed A  -- with the next record's index and bytes
  unread : ℕ → Parsed A  -- the index of the first record that does not read

unfoldable pub or_unread : {A B : Type 0} → Option A → ℕ → (A → Parsed B) → Parsed B
or_unread none i f = unread i
or_unread (some c) i f = f c

unfoldable pub records : {A : Type 0} → (List A → List ℕ → Option (Cut A)) → ℕ → List A → ℕ → List ℕ → Parsed (List A)
records f zero before i l = parsed (reverse before) i l
records f (suc n) before i l = or_unread (f before l) i (λ c. records f n (c.value ∷ before) (suc i) c.rest)

unfoldable pub onward : {A B : Type 0} → Parsed A → (A → ℕ → List ℕ → Parsed B) → Parsed B
onward (parsed x i l) f = f x i l
onward (unread i) f = unread i

-- "HD: classes u8, bodies u8, instructions u16, shapes u16"; "counts (1 to 64 bodies, 16 classes, …)" (M2)
unfoldable pub head_reads : List ℕ → Bool
head_reads l = marked 72 68 head_length l && (leb (byte_at l 2) 16 && (leb 1 (byte_at l 3) && leb (byte_at l 3) 64))

-- "ZZ: empty, last"; bytes after it are a record that does not read (M4)
unfoldable pub read_end : {A : Type 0} → A → ℕ → List ℕ → Parsed A
read_end x i l =
    If marked 90 90 end_length l then (If eqb (length l) end_length then parsed x (suc i) [] else unread (suc i)) else unread i

-- "Order: HD, CL, BD, IN by address, SH in any order, ZZ"; SH now by rising address, too
unfoldable pub parse_macro : List ℕ → Parsed Macro
parse_macro l =
    let classes = byte_at l 2 in let instructions = half_at l 4 in
    If head_reads l then
    onward (records (read_class classes) classes [] 1 (drop head_length l)) (λ cs i k.
    onward (records (read_body classes instructions) (byte_at l 3) [] i k) (λ bs i k.
    onward (records read_code instructions [] i k) (λ xs i k.
    onward (records (read_shape classes instructions) (half_at l 6) [] i k) (λ ss i k.
    read_end (record { classes = cs; bodies = bs; code = xs; shapes = ss }) i k))))
    else unread 0

-- 8: "the first record that does not read" (M1)
abbrev pub read_or8 : Parsed Macro → Judged Macro
read_or8 (parsed m i l) = accepted m
read_or8 (unread i) = refused (refusal 8 i)

unfoldable pub read_macro : List ℕ → Judged Macro
read_macro l = read_or8 (parse_macro l)
