use Rattle.cases_classes.proofs.showing.+blocks_text.Given as goal

abbrev pub decreases-blocks_text : goal.decreases-blocks_text
decreases-blocks_text l = l.levels
