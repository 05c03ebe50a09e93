mod Weaker
