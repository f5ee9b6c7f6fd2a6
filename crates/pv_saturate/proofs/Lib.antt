-- 1. Lists, and graphs of the same nodes.
pub mod Lists
pub mod Same
-- 2. A match is decoded: operations by number; what a left side names has parameters of its own; one name is told, and then one after
-- another; so what is decoded is the match that is shown.
pub mod Operating
pub mod Naming
pub mod Setting
pub mod Hearing
pub mod SameMatch
-- 3. What is decoded is a match, and with the witnesses its nodes can be chosen.
pub mod Matching
-- 4. The node that is chosen for a variable.
pub mod Choosing
-- 5. The instance over the nodes that are chosen, and that a certificate names it.
pub mod Instancing
pub mod Certifying
pub mod Cited
