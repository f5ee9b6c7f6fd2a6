-- what the nodes stand for
mod Folded
