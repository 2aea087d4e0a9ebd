-- A block or block expression up to its items: what `open_block` asks, and what it leaves.
use Rattle.std.specs.Prelude.{◌≡◌, List, ◌∷◌, ◌++◌, ℕ, ◌+◌, ◌*◌, ◌≤◌, length}
use Rattle.std.proofs.lemmas.List.Edits.{sets}
use Rattle.table_scopes.specs.Environment.{item, env_of, add_all, Grown}
use Rattle.table_scopes.specs.Items.{Reach, block_items}
use Rattle.table_entries.specs.Sizes.{Known}
use Rattle.compile_output.specs.declared.Cursor.{Cursor}
use Rattle.compile_output.specs.EmitRecord.{Fits}
use Rattle.compile_scopes.specs.Marks.{marks}
use Rattle.compile_emit.specs.declared.Opened.{Opened}
use Rattle.compile_emit.specs.EmitEntry.{cursor_head, emit_head, finishes, holds_head}

-- the declarations begin the part; the first stands at a place
pub record OpenAsks (l part : List ℕ) (at heads count : ℕ) (sizes env : List ℕ) (top : ℕ) (ends out : List ℕ) (cursor : Cursor) : Type 0 where
  pub long : 8 * heads ≤ length part
  pub known : Known l sizes
  pub within : 8 * (at + heads) ≤ length l
  pub reach : Reach l (at + heads) count
  pub short : length l ≤ 16384
  pub room : 4 * (top + holds_head part heads + (1 + length (block_items l at heads count))) ≤ length env
  pub ending : at + heads ≤ length ends
  pub fits : Fits (cursor_head part heads cursor) (length out)

-- the stack of names once the marks of holds, the block's mark k and its names are pushed
pub record Pushed (k : ℕ) (l : List ℕ) (at heads count top opens : ℕ) (old new : List ℕ) (up : ℕ) : Type 0 where
  pub mid : List ℕ
  pub marked : Grown top old mid (top + opens) (marks opens ++ env_of old top) opens
  pub entered : Grown (top + opens) mid new up (add_all (block_items l at heads count) (item k 0 0 0 ∷ env_of mid (top + opens))) (1 + length (block_items l at heads count))

-- the code of the declarations: the cursor after them, the output, and the ends
abbrev pub Declared : List ℕ → List ℕ → ℕ → ℕ → List ℕ → List ℕ → Cursor → Cursor → List ℕ → List ℕ → Type 0
Declared part known at heads ends out cursor p last late =
    (p ≡ cursor_head part heads cursor) × (late ≡ emit_head part known at heads cursor out) × (last ≡ sets ends at (finishes part heads cursor))

pub record OpenGives (k : ℕ) (l part : List ℕ) (at heads count : ℕ) (env : List ℕ) (top : ℕ) (known ends out : List ℕ) (cursor : Cursor)
    (r : Opened) (new last late : List ℕ) : Type 0 where
  pub opens : r.holds ≡ holds_head part heads
  pub pushed : Pushed k l at heads count top r.holds env new r.top
  pub declared : Declared part known at heads ends out cursor r.cursor last late
