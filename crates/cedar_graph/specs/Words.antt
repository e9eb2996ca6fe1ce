-- The words of clauses, from one place.
pub use Rattle.cedar_ast.specs.Chain.{Chain, more, one}
pub use Rattle.cedar_ast.specs.Lists.{HoldsPairwise}
pub use Rattle.cedar_table.specs.StandsAt.{StandsAt}
pub use Rattle.cedar_graph.specs.Edges.{AreAlike, HasEdge, IsEdgeIn, Reaches}
pub use Rattle.cedar_graph.specs.Gathered.{AreClosed, AreGathered, AreReached, GathersMore, mark_of}
pub use Rattle.cedar_graph.specs.Growth.{GrowsAt, GrowsBy}
pub use Rattle.cedar_graph.specs.Numbered.{IsTarget}
unfoldable pub use Rattle.cedar_graph.specs.Numbered.{items_at}
pub use Rattle.cedar_graph.specs.Numbering.{AreNumbers, AreNumbersOf, AreTargetsOf, IsNumbered, KeepsNumbers, ListHas, StandsIn}
pub use Rattle.cedar_graph.specs.Order.{IsLowestFirst, IsOrder, IsOrdered, IsPast, IsWalked, LeadsTo}
pub use Rattle.cedar_graph.specs.Tables.{AreInTurn, HasEntry, IsClosedTo, IsCycle, IsEndIn, IsFaultOf, IsGrown, IsLack, IsLinkedTo, IsTableFault, StepsTo}
pub use Rattle.cedar_graph.specs.TcError.{IsRefusal}
pub use Rattle.cedar_graph.specs.declared.closing.Mark.TheVariants.{Done, Fresh, Met}
pub use Rattle.cedar_graph.specs.declared.ordering.Mark.{Mark}
pub use Rattle.cedar_graph.specs.declared.ordering.Mark.TheVariants.{Open}
pub use Rattle.cedar_graph.specs.declared.ordering.Step.{Step}
pub use Rattle.cedar_graph.specs.declared.ordering.Step.TheVariants.{Enter, Leave}
pub use Rattle.cedar_graph.specs.declared.ordering.Walk.{Walk}
pub use Rattle.cedar_graph.specs.declared.table_fault.TableFault.{TableFault}
pub use Rattle.cedar_graph.specs.declared.table_fault.TableFault.TheVariants.{HasCycle, Lacks, Memory}
