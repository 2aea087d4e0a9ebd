-- Steps with operands aside: the bytes hold a state without them, at an address that was left behind.
use Rattle.std.specs.Prelude.{◌≡◌, true, List, [], ◌∷◌, ◌++◌, ℕ, ◌+◌, ◌*◌, ◌-◌, ◌≤◌, ◌<◌, length}
use Rattle.std.specs.Prelude.{Option, Some, None, Result, Ok, Err}
use Rattle.words.specs.Numbers.{byte_at, half_at, word_at}
use Rattle.values.specs.Ends.{accepted}
use Rattle.values.specs.Values.{Value}
use Rattle.bytecode.specs.Words.{value_word}
use Rattle.bytecode.specs.Macro.{Macro, read_macro}
use Rattle.bytecode.specs.Machine.{Activation, Shared, running, at}
use Rattle.bytecode.specs.Sound.{sound}
use Rattle.bytecode.specs.State.{type_byte, activations_at, activation_length, cell_words_at, cell_types_at, operand_words_at, operand_types_at}
use Rattle.bytecode_laws.specs.Terms.{Passed}
use Rattle.load_places.specs.Records.{count, code_base}
use Rattle.machine_frames.specs.Bytes.{went_to, pushed, popped, cell_set}
use Rattle.machine_frames.specs.On.{On}
use Rattle.machine_run.specs.declared.aside.Begun.{Begun}
use Rattle.machine_run.specs.declared.aside.Pair.{Pair}
use Rattle.machine_run.specs.declared.aside.Landing.{Landing}
use Rattle.machine_run.specs.Held.{Held, Since, Reaches}

-- where the instructions stand
pub record Coded (code : List ℕ) (base : ℕ) : Type 0 where
  pub based : base ≡ code_base code
  pub small : base < 65536
  pub inside : (i : ℕ) → i < count code → base + 8 * i + 8 ≤ length code

-- the operands vs, the top first, are aside: with them, and at the address i, the state is sound
pub record Aside (code l : List ℕ) (f n i : ℕ) (vs : List Value) : Type 0 where
  pub macro : Macro
  pub reads : read_macro code ≡ accepted macro
  pub passed : Passed macro
  pub shared : Shared
  pub top : Activation
  pub below : List Activation
  pub on : On l f shared [] top below
  pub depth : n ≡ length top.operands
  pub sounds : sound macro (running shared (at i (vs ++ top.operands) top) below) ≡ true

-- one operand, by its word and its type byte
pub record One (code l : List ℕ) (f n i w t : ℕ) : Type 0 where
  pub value : Value
  pub word : w ≡ value_word value
  pub type : t ≡ type_byte value
  pub aside : Aside code l f n i (value ∷ [])

-- whatever a run of k steps began with, if it comes to l after i steps it comes to l' after j, with no reading more
abbrev pub Leads : List ℕ → List ℕ → ℕ → List ℕ → ℕ → List ℕ → ℕ → Type 0
Leads code readings k l i l' j = (b : Since) → Reaches code readings k b l i → Reaches code readings k b l' j

-- ── what the functions do to bytes and numbers ──
-- the word of cell b, of the top at f or of the root
pub record Cells (l : List ℕ) (f a b w : ℕ) : Type 0 where
  pub place : ℕ
  pub own : a ≡ 0 → place ≡ f
  pub roots : a ≡ 1 → place ≡ 32
  pub word : w ≡ word_at l (place + (cell_words_at + 4 * b))

-- the last of n operands is taken out of the bytes
pub record Takes (l : List ℕ) (f n : ℕ) (l' : List ℕ) (w t k : ℕ) : Type 0 where
  pub word : w ≡ word_at l (f + (operand_words_at + 4 * (n - 1)))
  pub type : t ≡ byte_at l (f + (operand_types_at + (n - 1)))
  pub bytes : l' ≡ popped l f (n - 1)
  pub depth : k ≡ n - 1

pub data Begin (l : List ℕ) (f n op a b : ℕ) (l' : List ℕ) (w t k s : ℕ) : Type 0 where
  loads : op ≡ 5 → (c : Cells l f a b w) → t ≡ byte_at l (c.place + (cell_types_at + b)) → l' ≡ l → k ≡ n → s ≡ 1 → Begin l f n op a b l' w t k s
  pushes : op ≡ 1 → w ≡ b → t ≡ 1 → l' ≡ l → k ≡ n → s ≡ 1 → Begin l f n op a b l' w t k s
  takes : op ≡ 7 → a < 20 → Takes l f n l' w t k → s ≡ 0 → Begin l f n op a b l' w t k s

abbrev pub Begins : List ℕ → ℕ → ℕ → ℕ → ℕ → ℕ → List ℕ → Option Begun → Type 0
Begins l f n op a b l' (Some v) = Begin l f n op a b l' v.word v.ty v.depth v.steps
Begins l f n op a b l' None = (l' ≡ l) × (op ≡ 7 → 20 ≤ a)

-- the next operator, number c, is behind the instruction at p
pub record Follows (code : List ℕ) (p room c : ℕ) : Type 0 where
  pub op : byte_at code (p + 10) ≡ 7
  pub number : c ≡ byte_at code (p + 11)
  pub low : c < 20
  pub allowed : 2 ≤ room

pub data Paired (code : List ℕ) (p : ℕ) (l : List ℕ) (f n op a b w t room : ℕ) (l' : List ℕ) (c u x y k s : ℕ) : Type 0 where
  operates : op ≡ 7 → c ≡ a → c < 20 → Takes l f n l' x u k → y ≡ w → s ≡ 1 → Paired code p l f n op a b w t room l' c u x y k s
  pushes : op ≡ 1 → Follows code p room c → l' ≡ l → u ≡ t → x ≡ w → y ≡ b → k ≡ n → s ≡ 2 → Paired code p l f n op a b w t room l' c u x y k s
  loads : op ≡ 5 → Follows code p room c → Cells l f a b y → l' ≡ l → u ≡ t → x ≡ w → k ≡ n → s ≡ 2 → Paired code p l f n op a b w t room l' c u x y k s

abbrev pub Pairs : List ℕ → ℕ → List ℕ → ℕ → ℕ → ℕ → ℕ → ℕ → ℕ → ℕ → ℕ → List ℕ → Option Pair → Type 0
Pairs code p l f n op a b w t room l' (Some v) = Paired code p l f n op a b w t room l' v.operator v.ty v.left v.right v.depth v.steps
Pairs code p l f n op a b w t room l' None = (l' ≡ l) × (op ≡ 7 → 20 ≤ a)

abbrev pub landed : ℕ → ℕ → Landing
landed i j = record { address = i; taken = j }

pub data Leaves (l : List ℕ) (f n i j op a b w t : ℕ) (l' : List ℕ) (r : Landing) : Type 0 where
  stores : op ≡ 6 → (g : ℕ) → (a ≡ 0 → g ≡ f) → (a ≡ 1 → g ≡ 32) → l' ≡ went_to (cell_set l g b w t) f (i + 1) → r ≡ landed (i + 1) (j + 1) → Leaves l f n i j op a b w t l' r
  jumps : op ≡ 9 → w ≡ 0 → l' ≡ went_to l f b → r ≡ landed b (j + 1) → Leaves l f n i j op a b w t l' r
  passes : op ≡ 9 → (w ≡ 0 → ⊥) → l' ≡ went_to l f (i + 1) → r ≡ landed (i + 1) (j + 1) → Leaves l f n i j op a b w t l' r
  puts : l' ≡ went_to (pushed l f n w t) f i → r ≡ landed i j → Leaves l f n i j op a b w t l' r

-- ── where the steps lead ──
-- from bytes s after i steps to bytes l after j
pub record Led (code readings : List ℕ) (k : ℕ) (s : List ℕ) (i : ℕ) (l : List ℕ) (j : ℕ) : Type 0 where
  pub held : Held code l
  pub upto : j ≤ k
  pub leads : Leads code readings k s i l j

abbrev pub Lands : List ℕ → List ℕ → ℕ → ℕ → List ℕ → ℕ → List ℕ → Result Landing ℕ → Type 0
Lands code readings k f s i l (Ok r) =
    Led code readings k s i l r.taken × (byte_at l 0 ≡ 0) × (f ≡ activations_at + activation_length * (byte_at l 2 - 1)) × (r.address ≡ half_at l (f + 4))
Lands code readings k f s i l (Err j) = Led code readings k s i l j × (byte_at l 0 ≡ 1)

-- that steps are taken, where the first instruction, at p, is an operator of two operands and may be done
abbrev pub Grows : List ℕ → ℕ → ℕ → ℕ → Result Landing ℕ → Type 0
Grows code p i k (Ok r) = (i ≤ r.taken) × (byte_at code (p + 2) ≡ 7 → byte_at code (p + 3) < 20 → i < k → i < r.taken)
Grows code p i k (Err j) = Unit {0}
