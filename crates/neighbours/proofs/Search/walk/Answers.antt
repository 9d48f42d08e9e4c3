use Rattle.neighbours.specs.Walk.{walk_start, walk_rows, walk-some, walk-room, walk-met, met-past, met-hit, met-on, walk_end}
use mathlib.Core.Logic.{∥∥₁_elim}
use Rattle.std.proofs.lemmas.Grind.{merely}
use Rattle.std.proofs.Props.{props}
use Rattle.std.proofs.Common.{rules, arith, ◌≡◌, ◌-◌, ◌+◌}
use Rattle.neighbours.proofs.Search.walk.Goals as goal

pub index_at-o-requires : goal.index_at-o-requires
index_at-o-requires c = search rules

pub overflow_add-o : goal.overflow_add-o
overflow_add-o c = search rules

pub note_at-m-requires : goal.note_at-m-requires
note_at-m-requires c = search rules

pub overflow_add-o-2 : goal.overflow_add-o-2
overflow_add-o-2 c = search rules

pub overflow_add-o-3 : goal.overflow_add-o-3
overflow_add-o-3 c = search rules

pub note_at-many-requires : goal.note_at-many-requires
note_at-many-requires c = search rules

pub loop-turn-init : goal.loop-turn-init
loop-turn-init c = ∥∥₁_elim c.args.self.ready (Prim.hlevel props) (λ w. merely (search (rules, w, walk_start)))

pub after-k-requires-clause-fact : goal.after-k-requires-clause-fact
after-k-requires-clause-fact c = ∥∥₁_elim c.loop-turn.invariant (Prim.hlevel props) (λ w. let more : c.note_at-many.result - c.loop-turn._turn ≡ 0 → ⊥ = λ e. omega arith in search (rules, w, walk-some, more))

pub after-k-requires-clause-m_in_bounds : goal.after-k-requires-clause-m_in_bounds
after-k-requires-clause-m_in_bounds c = ∥∥₁_elim c.loop-turn.invariant (Prim.hlevel props) (λ w. let more : c.note_at-many.result - c.loop-turn._turn ≡ 0 → ⊥ = λ e. omega arith in search (rules, w, walk-room, more))

pub after-k-requires-clause-fact_2 : goal.after-k-requires-clause-fact_2
after-k-requires-clause-fact_2 c = ∥∥₁_elim c.loop-turn.invariant (Prim.hlevel props) (λ w. let more : c.note_at-many.result - c.loop-turn._turn ≡ 0 → ⊥ = λ e. omega arith in search (rules, w, walk-met, more))

pub returns-then-k-self : goal.returns-then-k-self
returns-then-k-self c = ∥∥₁_elim c.loop-turn.invariant (Prim.hlevel props) (λ w. let more : c.note_at-many.result - c.loop-turn._turn ≡ 0 → ⊥ = λ e. omega arith in search (rules, w, met-past, more))

pub edge_at-requires : goal.edge_at-requires
edge_at-requires c = ∥∥₁_elim c.loop-turn.invariant (Prim.hlevel props) (λ w. let more : c.note_at-many.result - c.loop-turn._turn ≡ 0 → ⊥ = λ e. omega arith in search (rules, w, walk_rows, more))

pub returns-then-edge_at : goal.returns-then-edge_at
returns-then-edge_at c = ∥∥₁_elim c.loop-turn.invariant (Prim.hlevel props) (λ w. let more : c.note_at-many.result - c.loop-turn._turn ≡ 0 → ⊥ = λ e. omega arith in search (rules, w, met-hit, more))

pub loop-turn-preserved : goal.loop-turn-preserved
loop-turn-preserved c = ∥∥₁_elim c.loop-turn.invariant (Prim.hlevel props) (λ w. let more : c.note_at-many.result - c.loop-turn._turn ≡ 0 → ⊥ = λ e. omega arith in let next : c.note_at-many.result - (c.loop-turn._turn + 1) ≡ c.note_at-many.result - c.loop-turn._turn - 1 = omega arith in merely (search (rules, w, met-on, more, next)))

pub returns : goal.returns
returns c = ∥∥₁_elim c.loop-turn.invariant (Prim.hlevel props) (λ w. let none : c.note_at-many.result - c.loop-turn._turn ≡ 0 = omega arith in search (rules, w, walk_end, none))
