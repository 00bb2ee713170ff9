-- That something comes of each statement that may declare something, and of the queues of a load.
use Rattle.std.specs.Prelude.{Bool, List, Result}
use Rattle.pf_token.specs.declared.token.Token.{Token}
use Rattle.pf_syntax.specs.declared.fault.FormFault.{FormFault}
use Rattle.pf_decl.specs.declared.check.QueueFault.{QueueFault}
use Rattle.pf_decl.specs.declared.check.UsedQueue.{UsedQueue}
use Rattle.pf_decl.specs.declared.form.Decl.{Decl}
use Rattle.pf_decl.specs.declared.form.Queue.{Queue}
use Rattle.pf_decl.specs.Checks.{Judged}
use Rattle.pf_decl.specs.Decls.{IsDecl, IsOutside}

-- The tokens, with a body behind them or not, declare something, or they declare nothing and are refused with a fault.
pub data DeclaresOrNot (tokens : List Token) (body : Bool) : Type 0 where
  declares : (decl : Decl) → IsDecl tokens body decl → DeclaresOrNot tokens body
  refused : (fault : FormFault) → IsOutside tokens body fault → DeclaresOrNot tokens body

-- Queues and their uses are judged in some way.
pub record HasJudgement (queues : List Queue) (used : List UsedQueue) : Type 0 where
  pub answer : Result (Unit {0}) QueueFault
  pub judged : Judged queues used answer
