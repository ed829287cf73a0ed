use Rattle.std.proofs.Common.{◌≡◌, length, take, map, List, Option, sym, ap, ◌∙◌, subst}
use Rattle.tl_eval.specs.Frames.{assignment_in}
use Rattle.tl_eval.proofs.FrameLaws.{length-frame}
use Rattle.tl_syntax.specs.declared.value.Value.{Value}
use Rattle.tl_syntax.specs.declared.variable.Var.{Var}
use Rattle.tl_eval.proofs.env.Env.keep.Goals as goal

pub returns : goal.returns
returns c =
    let frame : take 32 c.as_slice.result.now ≡ c.args.self.now = ap (take 32) c.as_slice.ensures.value ∙ c.self.view_is in
    record {
      slots = ap (λ (xs : List (Option Value)). length xs) (sym c.self.view_is) ∙ length-frame c.self.inside.values.items c.self.invariant;
      same = subst (λ (xs : List (Option Value)). take (length c.args.vars.now) c.keep.new.values ≡
          map (λ (s : Var). assignment_in xs s.slot) c.args.vars.now) frame c.keep.ensures;
    }
