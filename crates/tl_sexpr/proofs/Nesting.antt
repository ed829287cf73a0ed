-- The open lists while bytes are read.
use Rattle.std.proofs.Common.{◌≡◌, ℕ, ◌+◌, ◌<◌, List, [], ◌∷◌, ◌++◌, map, length, refl, ◌∙◌, ap, subst, arith}
use Rattle.std.proofs.lemmas.List.{map-append}
use Rattle.tl_sexpr.specs.declared.form.Form.{Form}
use Rattle.tl_sexpr.specs.declared.form.Form.TheVariants as form
use Rattle.tl_sexpr.specs.declared.form.Forms.{Forms}
use Rattle.tl_sexpr.specs.declared.reader.OpenList.{OpenList}
use Rattle.tl_sexpr.specs.Bytes.{StandsAt}
use Rattle.tl_sexpr.specs.Spelling.{IsGap, IsItem, AreItems}
use Rattle.tl_sexpr.specs.Reading.{Nested}
use Rattle.tl_sexpr.specs.Tree.{FormTrees, list, no_form, tree_of, trees_of, trees_of_list, items_of}
use Rattle.tl_sexpr.proofs.Spelled.{no_gap, items_longer, items_more}
use Rattle.tl_sexpr.proofs.TreeOf.{tree-List, trees-Forms}

-- the trees of a list of forms with one more at its end
pub trees_pushed : (fs gs : Forms) (f : Form) → items_of gs ≡ items_of fs ++ f ∷ [] → trees_of gs ≡
    trees_of_list (map tree_of (items_of fs) ++ tree_of f ∷ [])
trees_pushed fs gs f e = trees-Forms gs ∙ ap (λ (xs : List Form). trees_of_list (map tree_of xs)) e ∙
    ap trees_of_list (map-append tree_of (items_of fs) (f ∷ []))

pub trees_empty : (fs : Forms) → items_of fs ≡ [] → trees_of fs ≡ no_form
trees_empty fs e = trees-Forms fs ∙ ap (λ (xs : List Form). trees_of_list (map tree_of xs)) e

forms_more : (bytes : List ℕ) (around from to end : ℕ) (fs gs : Forms) (f : Form) → items_of gs ≡ items_of fs ++ f ∷ [] →
    AreItems bytes around from to (trees_of fs) → IsItem bytes around to end (tree_of f) → AreItems bytes around from end (trees_of gs)
forms_more bytes around from to end fs gs f e h item =
    rw (trees_pushed fs gs f e) (items_more bytes around from to end (map tree_of (items_of fs)) (tree_of f)
    (rw (trees-Forms fs) at h) item)

-- a gap after what was read
pub nested_longer : (bytes : List ℕ) (around from at end : ℕ) (os : List OpenList) (forms : FormTrees) →
    Nested bytes around from os forms at → IsGap bytes at end → Nested bytes around from os forms end
unfolding Nested
nested_longer bytes around from at end [] forms h gap = items_longer bytes around from at end forms h gap
nested_longer bytes around from at end (o ∷ os) forms h gap = (
  h.0,
  h.1,
  h.2,
  nested_longer bytes (around + 1) (o.at + 1) at end os forms h.3 gap,
)

-- an item after what was read
pub nested_more : (bytes : List ℕ) (around from at end : ℕ) (os : List OpenList) (fs gs : Forms) (f : Form) (depth : ℕ) → depth ≡
    around + length os → items_of gs ≡ items_of fs ++ f ∷ [] → Nested bytes around from os (trees_of fs) at →
    IsItem bytes depth at end (tree_of f) → Nested bytes around from os (trees_of gs) end
unfolding Nested
nested_more bytes around from at end [] fs gs f depth d e h item =
    let same : depth ≡ around = omega (arith, d) in
    forms_more bytes around from at end fs gs f e h (subst (λ k. IsItem bytes k at end (tree_of f)) same item)
nested_more bytes around from at end (o ∷ os) fs gs f depth d e h item =
    (h.0, h.1, h.2, nested_more bytes (around + 1) (o.at + 1) at end os fs gs f depth (omega (arith, d)) e h.3 item)

-- a `(` after what was read
pub nested_open : (bytes : List ℕ) (around from : ℕ) (os : List OpenList) (o : OpenList) (fs : Forms) → items_of fs ≡ [] →
    around + length os < 100 → StandsAt bytes o.at 40 → Nested bytes around from os (trees_of o.forms) o.at →
    Nested bytes around from (os ++ o ∷ []) (trees_of fs) (o.at + 1)
unfolding Nested AreItems
nested_open bytes around from [] o fs e few stands h = (h, omega (arith, few), stands, rw (trees_empty fs e) (no_gap bytes (o.at + 1)))
nested_open bytes around from (p ∷ os) o fs e few stands h =
    (h.0, h.1, h.2, nested_open bytes (around + 1) (p.at + 1) os o fs e (omega (arith, few)) stands h.3)

-- a `)` after what was read
pub nested_close : (bytes : List ℕ) (around from close : ℕ) (os : List OpenList) (o : OpenList) (fs gs : Forms) → items_of gs ≡
    items_of o.forms ++ form.List fs o.at ∷ [] → StandsAt bytes close 41 → Nested bytes around from (os ++ o ∷ []) (trees_of fs) close →
    Nested bytes around from os (trees_of gs) (close + 1)
unfolding Nested IsItem
nested_close bytes around from close [] o fs gs e stands h =
    let item : IsItem bytes around o.at (close + 1) (list (trees_of fs) o.at) = (refl, h.1, h.2, (close, refl, stands, h.3)) in
    forms_more bytes around from o.at (close + 1) o.forms gs (form.List fs o.at) e h.0 (rw (tree-List fs o.at) item)
nested_close bytes around from close (p ∷ os) o fs gs e stands h =
    (h.0, h.1, h.2, nested_close bytes (around + 1) (p.at + 1) close os o fs gs e stands h.3)
