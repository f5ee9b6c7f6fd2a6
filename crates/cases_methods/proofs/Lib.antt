mod Placed
