-- The records of a macro by their places in its bytes, and the first that does not read (refusal 8).
use Rattle.std.specs.Prelude.{Bool, true, false, cond, not, ◌&&◌, ◌||◌, List, ℕ, zero, suc, ◌+◌, ◌*◌, ◌-◌, ltb, leb, eqb, length}
use Rattle.words.specs.Numbers.{byte_at, half_at}
use Rattle.load_places.specs.Search.{first}

-- HD: classes u8, bodies u8, instructions u16, shapes u16
abbrev pub classes : List ℕ → ℕ
classes l = byte_at l 2

abbrev pub bodies : List ℕ → ℕ
bodies l = byte_at l 3

abbrev pub count : List ℕ → ℕ
count l = half_at l 4

abbrev pub shapes : List ℕ → ℕ
shapes l = half_at l 6

-- CL: field count u8, types
unfoldable pub class_place : List ℕ → ℕ → ℕ
class_place l zero = 8
class_place l (suc k) = class_place l k + 3 + byte_at l (class_place l k + 2)

-- BD: first address u16, parameters u8, result u8, cells u8, cell types
unfoldable pub body_place : List ℕ → ℕ → ℕ
body_place l zero = class_place l (classes l)
body_place l (suc k) = body_place l k + 7 + byte_at l (body_place l k + 6)

abbrev pub first_of : List ℕ → ℕ → ℕ
first_of l k = half_at l (body_place l k + 2)

-- IN: op u8, a u8, b 32 bits
abbrev pub code_base : List ℕ → ℕ
code_base l = body_place l (bodies l)

abbrev pub code_place : List ℕ → ℕ → ℕ
code_place l i = code_base l + 8 * i

-- SH: address u16, holds u8, depth u8, types from the bottom
unfoldable pub shape_place : List ℕ → ℕ → ℕ
shape_place l zero = code_place l (count l)
shape_place l (suc k) = shape_place l k + 6 + byte_at l (shape_place l k + 5)

abbrev pub address_of : List ℕ → ℕ → ℕ
address_of l k = half_at l (shape_place l k + 2)

-- among the first k shapes, where that of address x stands; 0 if there is none
unfoldable pub find : List ℕ → ℕ → ℕ → ℕ
find l zero x = 0
find l (suc k) x = cond (eqb (find l k x) 0) (cond (eqb (address_of l k) x) (shape_place l k) 0) (find l k x)

-- ── the tests of each record ──
-- a record of n bytes with the mark x, y does not stand at p
unfoldable pub no_mark : List ℕ → ℕ → ℕ → ℕ → ℕ → Bool
no_mark l p n x y = cond (ltb (length l) (p + n)) true (not (eqb (byte_at l p) x && eqb (byte_at l (p + 1)) y))

-- t is no type byte where there are c classes
unfoldable pub no_type : ℕ → ℕ → Bool
no_type c t = cond (ltb t 16) (ltb t 1 || ltb 3 t) (leb c (t - 16))

-- of the n bytes from p one is no type
unfoldable pub bad_types : List ℕ → ℕ → ℕ → Bool
bad_types l p n = ltb (first (λ k. no_type (classes l) (byte_at l (p + k))) n) n

unfoldable pub bad_head : List ℕ → Bool
bad_head l = cond (no_mark l 0 8 72 68) true (ltb 16 (classes l) || (ltb (bodies l) 1 || ltb 64 (bodies l)))

unfoldable pub bad_class : List ℕ → ℕ → Bool
bad_class l k =
    cond (no_mark l (class_place l k) 3 67 76) true
    (cond (ltb (byte_at l (class_place l k + 2)) 1) true
    (cond (ltb 8 (byte_at l (class_place l k + 2))) true
    (cond (ltb (length l) (class_place l k + 3 + byte_at l (class_place l k + 2))) true
    (bad_types l (class_place l k + 3) (byte_at l (class_place l k + 2))))))

-- the k-th first address, a, rises from the one before it, u
unfoldable pub rises : ℕ → ℕ → ℕ → Bool
rises k u a = cond (eqb k 0) (eqb a 0) (ltb u a)

-- a body's record at p, all but that its first address rises
unfoldable pub body_fits : List ℕ → ℕ → Bool
body_fits l p =
    cond (no_mark l p 7 66 68) false
    (cond (ltb (length l) (p + 7 + byte_at l (p + 6))) false
    (cond (eqb (byte_at l (p + 5)) 0 || not (no_type (classes l) (byte_at l (p + 5))))
    (cond (ltb (byte_at l (p + 6)) (byte_at l (p + 4))) false
    (cond (bad_types l (p + 7) (byte_at l (p + 6))) false
    (ltb (half_at l (p + 2)) (count l))))
    false))

unfoldable pub bad_body : List ℕ → ℕ → Bool
bad_body l k = cond (body_fits l (body_place l k)) (not (rises k (first_of l (k - 1)) (first_of l k))) true

abbrev pub bad_code : List ℕ → ℕ → Bool
bad_code l i = no_mark l (code_place l i) 8 73 78

unfoldable pub shape_fits : List ℕ → ℕ → Bool
shape_fits l p =
    cond (no_mark l p 6 83 72) false
    (cond (ltb (length l) (p + 6 + byte_at l (p + 5))) false
    (cond (bad_types l (p + 6) (byte_at l (p + 5))) false
    (ltb (half_at l (p + 2)) (count l))))

-- the least address that the k-th shape may have: past the one before it
unfoldable pub least : List ℕ → ℕ → ℕ
least l zero = 0
least l (suc k) = suc (address_of l k)

unfoldable pub bad_shape : List ℕ → ℕ → Bool
bad_shape l k = cond (shape_fits l (shape_place l k)) (ltb (address_of l k) (least l k)) true

-- ── the records read, or the index of the first that does not ──
pub data Read : Type 0 where
  reads : Read
  unread : ℕ → Read

unfoldable pub read_end : List ℕ → ℕ → ℕ → Read
read_end l p k = cond (no_mark l p 2 90 90) (unread k) (cond (eqb (length l) (p + 2)) reads (unread (k + 1)))

-- the first of n bad ones, k records further on, else the rest
abbrev pub among : ℕ → ℕ → ℕ → Read → Read
among r n k rest = cond (ltb r n) (unread (k + r)) rest

unfoldable pub read_records : List ℕ → Read
read_records l =
    cond (bad_head l) (unread 0)
    (among (first (bad_class l) (classes l)) (classes l) 1
    (among (first (bad_body l) (bodies l)) (bodies l) (1 + classes l)
    (among (first (bad_code l) (count l)) (count l) (1 + classes l + bodies l)
    (among (first (bad_shape l) (shapes l)) (shapes l) (1 + classes l + bodies l + count l)
    (read_end l (shape_place l (shapes l)) (1 + classes l + bodies l + count l + shapes l))))))
