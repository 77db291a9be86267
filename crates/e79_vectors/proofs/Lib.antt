mod Finite
