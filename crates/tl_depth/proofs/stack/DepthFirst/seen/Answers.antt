use Rattle.tl_depth.proofs.NamedStacks.{stack-stepped, search-with}
use Rattle.std.proofs.Common.{◌≡◌, length, slice_index_or, Some, refl, sym, ap, subst, arith}
use Rattle.std.specs.List.{slice_get}
use Rattle.tl_depth.proofs.LevelFacts.{get-within}
use Rattle.tl_search.specs.declared.arrival.Arrival.TheVariants as arrival
use Rattle.tl_depth.specs.declared.stack.DepthFirst.{DepthFirst}
use Rattle.tl_depth.proofs.Ends.{get-at, on-ok, if-err}
use Rattle.tl_depth.proofs.Arriving.{turned-passes, turned-kept, turned-again, seen-within, fault-entering}
use Rattle.tl_depth.proofs.SeenPairs.{number-kept}
use Rattle.tl_depth.proofs.stack.DepthFirst.seen.Goals as goal

pub returns-then-left-as_slice-clause-turned : goal.returns-then-left-as_slice-clause-turned
returns-then-left-as_slice-clause-turned g c calls s =
    let a = s.arrives in
    let l = seen-within _ _ _ _ (arrival.Seen c.args.k) _ calls s c.args.k a.0 a.1.0 a.1.1 a.1.2 in
    let v : slice_index_or c.as_slice.result.now c.args.k 0 ≡ slice_index_or c.args.self.now.most.items c.args.k 0 =
    ap (λ us. slice_index_or us c.args.k 0) c.as_slice.ensures.value in
    turned-passes _ _ _ _ (arrival.Seen c.args.k) _ calls s c.args.k a.0 a.1.0 a.1.1 a.1.2 c.pass.new.self c.pass.ensures.stack
    c.pass.ensures.rest _ (get-at _ c.args.k 0 l) (omega (arith, v, c.if-left-as_slice.true)) refl

pub returns-then-not-self-clause-turned : goal.returns-then-not-self-clause-turned
returns-then-not-self-clause-turned g c calls s =
    let a = s.arrives in
    let l = seen-within _ _ _ _ (arrival.Seen c.args.k) _ calls s c.args.k a.0 a.1.0 a.1.1 a.1.2 in
    let v : slice_index_or c.as_slice.result.now c.args.k 0 ≡ slice_index_or c.args.self.now.most.items c.args.k 0 =
    ap (λ us. slice_index_or us c.args.k 0) c.as_slice.ensures.value in
    let passed = c.pass-then-not-self.ensures in
    turned-kept _ _ _ _ (arrival.Seen c.args.k) _ calls s c.args.k a.0 a.1.0 a.1.1 a.1.2 c.pass-then-not-self.new.self passed.stack
    (ap (λ (w : DepthFirst). w.within) passed.rest) (ap (λ (w : DepthFirst). w.watch) passed.rest)
    (ap (λ (w : DepthFirst). w.events) passed.rest)
    (ap (λ (w : DepthFirst). w.most.items) passed.rest) _ (get-at _ c.args.k 0 l)
    (omega (arith, v, c.if-left-as_slice.false)) c.if-not-self.true

pub returns-then-not-self-clause-named : goal.returns-then-not-self-clause-named
returns-then-not-self-clause-named g c =
    let s = c.requires.arrived.1 in
    search-with (g.S.SearchSpace.task c.args.space.now) c.args.self.now c.pass-then-not-self.new.self
    (stack-stepped (g.S.SearchSpace.task c.args.space.now) c.args.self.now.stack.items s.front c.pass-then-not-self.new.self.stack.items
    s.top s.stack (c.pass-then-not-self.ensures.stack s.front s.top s.stack) c.requires.named.stack)
    (ap (λ (w : DepthFirst). w.events) c.pass-then-not-self.ensures.rest) c.requires.named

pub index_mut-requires : goal.index_mut-requires
index_mut-requires g c =
    let s = c.requires.arrived.1 in
    let a = s.arrives in
    let l = seen-within _ _ _ _ (arrival.Seen c.args.k) _ c.requires.arrived.0 s c.args.k a.0 a.1.0 a.1.1 a.1.2 in
    omega (arith, l, c.as_slice.ensures.len, ap length c.as_slice.ensures.value)

pub enter-requires-clause-at : goal.enter-requires-clause-at
enter-requires-clause-at g c =
    let s = c.requires.arrived.1 in
    let a = s.arrives in
    number-kept _ c.args.k (get-within _ c.args.k a.1.0 (subst (λ us. slice_get us c.args.k ≡ Some a.1.0) (sym a.0) a.1.1))

pub returns-clause-turned : goal.returns-clause-turned
returns-clause-turned g c = on-ok c.enter.result _ _ c.enter.ensures.entered (λ t calls s.
    let a = s.arrives in
    let l = seen-within _ _ _ _ (arrival.Seen c.args.k) _ calls s c.args.k a.0 a.1.0 a.1.1 a.1.2 in
    let v : slice_index_or c.as_slice.result.now c.args.k 0 ≡ slice_index_or c.args.self.now.most.items c.args.k 0 =
    ap (λ us. slice_index_or us c.args.k 0) c.as_slice.ensures.value in
    turned-again _ _ _ _ (arrival.Seen c.args.k) _ calls s c.args.k a.0 a.1.0 a.1.1 a.1.2 c.enter.new.self t
    (ap (λ (w : DepthFirst). w.within) c.enter.ensures.rest) (ap (λ (w : DepthFirst). w.watch) c.enter.ensures.rest)
    (ap (λ (w : DepthFirst). w.events) c.enter.ensures.rest) (ap (λ (w : DepthFirst). w.reenters) c.enter.ensures.rest)
    (ap (λ (w : DepthFirst). w.most.items) c.enter.ensures.rest) _ (get-at _ c.args.k 0 l)
    (omega (arith, v, c.if-left-as_slice.false)) refl)

pub returns-clause-fault : goal.returns-clause-fault
returns-clause-fault g c = if-err c.enter.result _ _ c.enter.ensures.fault (λ f e.
    let s = c.requires.arrived.1 in
    let a = s.arrives in
    fault-entering _ _ _ _ (arrival.Seen c.args.k) _ c.requires.arrived.0 s a.1.0 a.1.2 c.args.k
    (subst (λ us. slice_get us c.args.k ≡ Some a.1.0) (sym a.0) a.1.1) (omega (arith, c.if-left-as_slice.false)) f e)

pub returns-then-left-as_slice-clause-named : goal.returns-then-left-as_slice-clause-named
returns-then-left-as_slice-clause-named g c =
    let s = c.requires.arrived.1 in
    search-with (g.S.SearchSpace.task c.args.space.now) c.args.self.now c.pass.new.self
    (stack-stepped (g.S.SearchSpace.task c.args.space.now) c.args.self.now.stack.items s.front c.pass.new.self.stack.items s.top s.stack
    (c.pass.ensures.stack s.front s.top s.stack) c.requires.named.stack)
    (ap (λ (w : DepthFirst). w.events) c.pass.ensures.rest) c.requires.named

pub enter-requires-clause-named : goal.enter-requires-clause-named
enter-requires-clause-named g c = record { stack = c.requires.named.stack; events = c.requires.named.events }
