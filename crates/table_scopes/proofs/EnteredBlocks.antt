-- What stands when the head of a block was pushed: its names are seen, and each is at fault that was there before.
use Rattle.std.specs.Prelude.{length}
use Rattle.std.proofs.Common.{arith}
use mathlib.Core.List.{List, [], ◌∷◌, ◌++◌, map}
use Prim.Native.Nat.{ℕ, ◌+◌, ◌<◌}
use Rattle.language.specs.Program.{flat_decl, flat_items}
use Rattle.language.specs.Tree.{Decl, Items, count_items}
use Rattle.language.specs.Names.{defines_head, defines_items, Scope}
use Rattle.language.specs.Names.{block_of, expression_of}
use Rattle.language.specs.Faults.{names_head}
use Rattle.language_laws.specs.Claims.{entries_of}
use Rattle.table_scopes.specs.Environment.{Item, Found, Nothing, Def, opened, shut, find, add_all}
use Rattle.table_scopes.specs.Environment as env
use Rattle.table_entries.specs.Stands.{Stands}
use Rattle.table_scopes.specs.Items.{block_items}
use Rattle.table_scopes.specs.Sees.{Legible, Sees, sees-block, sees-expression}
use Rattle.table_scopes.proofs.OnceBlocks.{once-block}
use Rattle.table_scopes.specs.Defines.{head_items, label_items, seen_head, OnceHead, OnceItems, Entered, block-items, small, matches, once-head, once-seen, once-items, seen-names, head-rising, label-rising}

module _ {l : List ℕ} (legible : Legible l) (p : ℕ) (ds : List Decl) (is : Items) (h : Stands (entries_of l) p (map flat_decl ds ++ flat_items is)) where
  once-parts : (k : ℕ) (v : List Item) → 65535 < k
      → OnceHead (add_all (head_items 4 p ds ++ label_items (p + length ds) is) (env.item k 0 0 0 ∷ v)) [] p ds
      × OnceItems (add_all (head_items 4 p ds ++ label_items (p + length ds) is) (env.item k 0 0 0 ∷ v)) (names_head ds) (p + length ds) is
  once-parts k v m =
      let js = label_items (p + length ds) is in
      let w = add_all (head_items 4 p ds ++ js) (env.item k 0 0 0 ∷ v) in
      let o = once-head w [] 4 p ds js (once-block k (head_items 4 p ds ++ js) v p m (rw (block-items legible p ds is h) at (small legible p ds is h)) (head-rising 4 p ds js (label-rising (p + length ds) is))) in
      (o.0, once-seen w (seen_head ds []) (names_head ds) (p + length ds) is (λ a. seen-names a ds) (once-items w (seen_head ds []) (p + length ds) is o.1))

  pub entered-block : {v : List Item} {ss : List Scope} → Sees l v ss → Entered l (add_all (block_items l p (length ds) (count_items is)) (env.item opened 0 0 0 ∷ v)) (block_of ds is ∷ ss) p ds is
  entered-block {v} see = rw (block-items legible p ds is h) (record {
    sees = sees-block see (head_items 4 p ds ++ label_items (p + length ds) is) (defines_head ds ++ defines_items is) (matches legible p ds is h) (rw (block-items legible p ds is h) at (small legible p ds is h));
    head = (once-parts opened v (omega arith)).0;
    items = (once-parts opened v (omega arith)).1;
  })

  pub entered-expression : {v : List Item} {ss : List Scope} → Sees l v ss → Entered l (add_all (block_items l p (length ds) (count_items is)) (env.item shut 0 0 0 ∷ v)) (expression_of ds is ∷ ss) p ds is
  entered-expression {v} see = rw (block-items legible p ds is h) (record {
    sees = sees-expression see (head_items 4 p ds ++ label_items (p + length ds) is) (defines_head ds ++ defines_items is) (matches legible p ds is h) (rw (block-items legible p ds is h) at (small legible p ds is h));
    head = (once-parts shut v (omega arith)).0;
    items = (once-parts shut v (omega arith)).1;
  })
