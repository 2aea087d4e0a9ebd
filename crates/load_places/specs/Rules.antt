-- The loading rules over places: the state found at each address, the faults, the verdict. A state is the number of open holds and the
-- operands' type bytes, the top first.
use Rattle.std.specs.Prelude.{Bool, true, false, cond, not, ◌&&◌, ◌||◌, List, [], ◌∷◌, ℕ, zero, suc, ◌+◌, ◌-◌, ltb, eqb, length}
use Rattle.words.specs.Numbers.{byte_at, word_at}
use Rattle.load_places.specs.Search.{first, tops, alike}
use Rattle.load_places.specs.Records.{classes, bodies, count, shapes, class_place, body_place, first_of, code_place, find, Read, reads, unread, read_records}

-- what flows on: a state, nothing, or a fault
pub data Flow : Type 0 where
  goes : ℕ → List ℕ → Flow
  ends : Flow
  bad : Flow

-- the place of the shape of an address, 0 if there is none
unfoldable pub shape_at : List ℕ → ℕ → ℕ
shape_at l x = cond (ltb x (count l)) (find l (shapes l) x) 0

-- the operands of the shape at p
abbrev pub shape_types : List ℕ → ℕ → List ℕ
shape_types l p = tops l (p + 6) (byte_at l (p + 5))

unfoldable pub equals : List ℕ → ℕ → ℕ → List ℕ → Bool
equals l p h s = cond (eqb h (byte_at l (p + 4))) (cond (eqb (length s) (byte_at l (p + 5))) (alike s (shape_types l p)) false) false

-- the body an address is in; its end
unfoldable pub body_of : List ℕ → ℕ → ℕ
body_of l zero = 0
body_of l (suc i) = cond (ltb (suc (body_of l i)) (bodies l) && eqb (first_of l (suc (body_of l i))) (suc i)) (suc (body_of l i)) (body_of l i)

unfoldable pub end_of : List ℕ → ℕ → ℕ
end_of l k = cond (ltb (k + 1) (bodies l)) (first_of l (k + 1)) (count l)

-- ── the working stack ──
abbrev pub need : Bool → Flow → Flow
need t f = cond t f bad

unfoldable pub push : ℕ → ℕ → List ℕ → Flow
push t h s = need (ltb (length s) 32) (goes h (t ∷ s))

-- takes a value of type t off the stack
unfoldable pub pop : ℕ → ℕ → List ℕ → Flow
pop t h [] = bad
pop t h (x ∷ s) = need (eqb x t) (goes h s)

-- the type on top, 0 if there is none
abbrev pub top_of : List ℕ → ℕ
top_of [] = 0
top_of (x ∷ s) = x

abbrev pub chain : Flow → (ℕ → List ℕ → Flow) → Flow
chain (goes h s) f = f h s
chain ends f = bad
chain bad f = bad

-- takes values of the n types at q, the last of them on top
unfoldable pub takes : List ℕ → ℕ → ℕ → ℕ → List ℕ → Flow
takes l q zero h s = goes h s
takes l q (suc n) h s = chain (pop (byte_at l (q + n)) h s) (λ g r. takes l q n g r)

-- takes values of types u and then t, and gives one of type r
unfoldable pub trade1 : ℕ → ℕ → ℕ → List ℕ → Flow
trade1 t r h s = chain (pop t h s) (λ g q. push r g q)

unfoldable pub trade2 : ℕ → ℕ → ℕ → ℕ → List ℕ → Flow
trade2 t u r h s = chain (pop u h s) (λ g q. chain (pop t g q) (λ f p. push r f p))

-- ── the ops ──
-- a jump from body k to b finds an equal shape in its body
unfoldable pub lands : List ℕ → ℕ → ℕ → ℕ → List ℕ → Bool
lands l k b h s =
    cond (ltb b (first_of l k)) false
    (cond (ltb b (end_of l k)) (cond (eqb (shape_at l b) 0) false (equals l (shape_at l b) h s)) false)

abbrev pub unused : ℕ → Flow → Flow
unused x f = need (eqb x 0) f

unfoldable pub op_end : ℕ → ℕ → ℕ → ℕ → List ℕ → Flow
op_end k a b h s = unused a (unused b (need (eqb k 0) (need (eqb h 0) (need (eqb (length s) 0) ends))))

unfoldable pub op_integer : ℕ → ℕ → List ℕ → Flow
op_integer a h s = unused a (push 1 h s)

unfoldable pub op_logical : ℕ → ℕ → ℕ → List ℕ → Flow
op_logical a b h s = unused a (need (ltb b 2) (push 2 h s))

unfoldable pub op_bits : ℕ → ℕ → List ℕ → Flow
op_bits a h s = unused a (push 3 h s)

unfoldable pub op_null : List ℕ → ℕ → ℕ → ℕ → List ℕ → Flow
op_null l a b h s = unused b (need (ltb a (classes l)) (push (16 + a) h s))

-- whose cells: a 0 own, 1 root's
abbrev pub owner_body : ℕ → ℕ → ℕ
owner_body k a = cond (eqb a 0) k 0

unfoldable pub op_load : List ℕ → ℕ → ℕ → ℕ → ℕ → List ℕ → Flow
op_load l k a b h s =
    let p = body_place l (owner_body k a) in need (ltb a 2) (need (ltb b (byte_at l (p + 6))) (push (byte_at l (p + 7 + b)) h s))

unfoldable pub op_store : List ℕ → ℕ → ℕ → ℕ → ℕ → List ℕ → Flow
op_store l k a b h s =
    let p = body_place l (owner_body k a) in need (ltb a 2) (need (ltb b (byte_at l (p + 6))) (pop (byte_at l (p + 7 + b)) h s))

-- logical or bits
abbrev pub twofold : ℕ → Bool
twofold t = eqb t 2 || eqb t 3

unfoldable pub operates : ℕ → ℕ → List ℕ → Flow
operates a h s =
    cond (ltb a 1) bad
    (cond (ltb a 6) (trade2 1 1 1 h s)
    (cond (ltb a 10) (trade2 1 1 2 h s)
    (cond (ltb a 12) (trade2 (top_of s) (top_of s) 2 h s)
    (cond (ltb a 14) (need (twofold (top_of s)) (trade2 (top_of s) (top_of s) (top_of s) h s))
    (cond (ltb a 16) (trade2 3 1 3 h s)
    (cond (ltb a 20) bad
    (cond (ltb a 22) (trade1 1 1 h s)
    (cond (ltb a 23) (need (twofold (top_of s)) (trade1 (top_of s) (top_of s) h s)) bad))))))))

unfoldable pub op_operator : ℕ → ℕ → ℕ → List ℕ → Flow
op_operator a b h s = unused b (operates a h s)

unfoldable pub op_go : List ℕ → ℕ → ℕ → ℕ → ℕ → List ℕ → Flow
op_go l k a b h s = unused a (need (lands l k b h s) ends)

unfoldable pub op_unless : List ℕ → ℕ → ℕ → ℕ → ℕ → List ℕ → Flow
op_unless l k a b h s = unused a (chain (pop 2 h s) (λ g r. need (lands l k b g r) (goes g r)))

-- the result's type, if there is one, goes onto the stack
unfoldable pub handed : ℕ → ℕ → List ℕ → Flow
handed t h s = cond (eqb t 0) (goes h s) (push t h s)

unfoldable pub op_call : List ℕ → ℕ → ℕ → ℕ → List ℕ → Flow
op_call l a b h s =
    unused a (need (not (eqb b 0)) (need (ltb b (bodies l))
    (chain (takes l (body_place l b + 7) (byte_at l (body_place l b + 4)) h s) (λ g r. handed (byte_at l (body_place l b + 5)) g r))))

-- the stack holds just the result
unfoldable pub justs : ℕ → ℕ → List ℕ → Flow
justs t h s = cond (eqb t 0) (need (eqb (length s) 0) ends) (chain (pop t h s) (λ g r. need (eqb (length r) 0) ends))

unfoldable pub op_return : List ℕ → ℕ → ℕ → ℕ → ℕ → List ℕ → Flow
op_return l k a b h s = unused a (unused b (need (not (eqb k 0)) (need (eqb h 0) (justs (byte_at l (body_place l k + 5)) h s))))

unfoldable pub op_make : List ℕ → ℕ → ℕ → ℕ → List ℕ → Flow
op_make l a b h s =
    unused b (need (ltb a (classes l))
    (chain (takes l (class_place l a + 3) (byte_at l (class_place l a + 2)) h s) (λ g r. push (16 + a) g r)))

unfoldable pub op_get_field : List ℕ → ℕ → ℕ → ℕ → List ℕ → Flow
op_get_field l a b h s =
    need (ltb a (classes l)) (need (ltb b (byte_at l (class_place l a + 2))) (trade1 (16 + a) (byte_at l (class_place l a + 3 + b)) h s))

unfoldable pub op_put_field : List ℕ → ℕ → ℕ → ℕ → List ℕ → Flow
op_put_field l a b h s =
    need (ltb a (classes l)) (need (ltb b (byte_at l (class_place l a + 2)))
    (chain (pop (byte_at l (class_place l a + 3 + b)) h s) (λ g r. pop (16 + a) g r)))

unfoldable pub op_set : ℕ → ℕ → ℕ → List ℕ → Flow
op_set a b h s = unused a (unused b (chain (pop 1 h s) (λ g r. pop 1 g r)))

unfoldable pub op_fader : ℕ → ℕ → ℕ → List ℕ → Flow
op_fader a b h s = unused a (unused b (trade1 1 1 h s))

unfoldable pub op_hold : ℕ → ℕ → ℕ → List ℕ → Flow
op_hold a b h s = unused a (need (ltb b 64) (need (ltb h 16) (goes (h + 1) s)))

unfoldable pub op_release : ℕ → ℕ → ℕ → List ℕ → Flow
op_release a b h s = unused a (unused b (need (not (eqb h 0)) (goes (h - 1) s)))

unfoldable pub op_assert : ℕ → ℕ → ℕ → List ℕ → Flow
op_assert a b h s = unused a (unused b (pop 2 h s))

-- "Op 20 stops by its a, 24 or 28." (paper 02, ticket 1)
abbrev pub stops_by : ℕ → Bool
stops_by a = eqb a 24 || eqb a 28

unfoldable pub op_stop : ℕ → ℕ → Flow
op_stop a b = need (stops_by a) (unused b ends)

unfoldable pub effect : List ℕ → ℕ → ℕ → ℕ → ℕ → ℕ → List ℕ → Flow
effect l k o a b h s =
    cond (eqb o 0) (op_end k a b h s)
    (cond (eqb o 1) (op_integer a h s)
    (cond (eqb o 2) (op_logical a b h s)
    (cond (eqb o 3) (op_bits a h s)
    (cond (eqb o 4) (op_null l a b h s)
    (cond (eqb o 5) (op_load l k a b h s)
    (cond (eqb o 6) (op_store l k a b h s)
    (cond (eqb o 7) (op_operator a b h s)
    (cond (eqb o 8) (op_go l k a b h s)
    (cond (eqb o 9) (op_unless l k a b h s)
    (cond (eqb o 10) (op_call l a b h s)
    (cond (eqb o 11) (op_return l k a b h s)
    (cond (eqb o 12) (op_make l a b h s)
    (cond (eqb o 13) (op_get_field l a b h s)
    (cond (eqb o 14) (op_put_field l a b h s)
    (cond (eqb o 15) (op_set a b h s)
    (cond (eqb o 16) (op_fader a b h s)
    (cond (eqb o 17) (op_hold a b h s)
    (cond (eqb o 18) (op_release a b h s)
    (cond (eqb o 19) (op_assert a b h s)
    (cond (eqb o 20) (op_stop a b) bad))))))))))))))))))))

-- ── an address: what flows in meets the shape there ──
abbrev pub agree : List ℕ → ℕ → Flow → Flow
agree l p (goes h s) = cond (equals l p h s) (goes h s) bad
agree l p ends = goes (byte_at l (p + 4)) (shape_types l p)
agree l p bad = bad

unfoldable pub meet : List ℕ → ℕ → Flow → Flow
meet l p f =
    cond (eqb p 0) f
    (cond (ltb 16 (byte_at l (p + 4))) bad
    (cond (ltb 32 (byte_at l (p + 5))) bad
    (agree l p f)))

-- what an op leaves must have somewhere to go
unfoldable pub leave : List ℕ → ℕ → ℕ → Flow → Flow
leave l k i (goes h s) = cond (eqb (i + 1) (end_of l k)) bad (goes h s)
leave l k i ends = cond (eqb (i + 1) (end_of l k)) ends (cond (eqb (shape_at l (i + 1)) 0) bad ends)
leave l k i bad = bad

-- the root, body 0, has no parameters (x) and no result (y)
unfoldable pub plain : ℕ → ℕ → ℕ → Bool
plain k x y = cond (eqb k 0) (eqb (x + y) 0) true

-- a body's limits are tested at its first address, where it has no holds and nothing on the stack
unfoldable pub opens : List ℕ → ℕ → ℕ → Flow → Flow
opens l k i f =
    cond (eqb (first_of l k) i)
    (cond (ltb 32 (byte_at l (body_place l k + 6))) bad
    (need (plain k (byte_at l (body_place l k + 4)) (byte_at l (body_place l k + 5))) (goes 0 [])))
    f

-- the state found at an address, given what flows in
abbrev pub found : List ℕ → ℕ → Flow → Flow
found l i f = meet l (shape_at l i) (opens l (body_of l i) i f)

-- what flows out of an address; bad where the address has a fault
unfoldable pub step : List ℕ → ℕ → Flow → Flow
step l i f =
    leave l (body_of l i) i
    (chain (found l i f) (λ h s. effect l (body_of l i) (byte_at l (code_place l i + 2)) (byte_at l (code_place l i + 3)) (word_at l (code_place l i + 4)) h s))

unfoldable pub into : List ℕ → ℕ → Flow
into l zero = ends
into l (suc i) = step l i (into l i)

abbrev pub is_bad : Flow → Bool
is_bad (goes h s) = false
is_bad ends = false
is_bad bad = true

unfoldable pub broken : List ℕ → ℕ → Bool
broken l i = is_bad (step l i (into l i))

-- ── the verdict ──
pub data Verdict : Type 0 where
  passes : Verdict
  refused : ℕ → ℕ → Verdict

abbrev pub verdict : List ℕ → Read → Verdict
verdict l (unread k) = refused 8 k
verdict l reads = cond (ltb (first (broken l) (count l)) (count l)) (refused 9 (first (broken l) (count l))) passes

unfoldable pub judge : List ℕ → Verdict
judge l = verdict l (read_records l)
